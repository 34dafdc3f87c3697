-- Arguments that name pages of a disk.
use Rattle.std.proofs.Common.{◌≡◌, ◌<◌, ◌+◌, ℕ, List, [], ◌∷◌, ◌++◌, length, take, get_or, All}
use Rattle.std.specs.Borrow.{Bor}
use Rattle.std.proofs.lemmas.List.Elements.{All-nil, All-cons}
use Rattle.list_facts.proofs.Zips.{AllZip-take_more}
use Rattle.scrub_disk.specs.declared.geometry.Geometry.{Geometry}
use Rattle.scrub_cli.specs.DiskImage.{NamesPage, NamePages}

-- one more argument, and the page that it names
pub named_more : (g : Geometry) (args : List (Bor (List ℕ))) (pages more : List (ℕ × ℕ)) (i : ℕ) (d : Bor (List ℕ))
    (at : ℕ × ℕ) →
    i < length args → NamePages g (take i args) pages → NamesPage g (get_or args i d).now at →
    more ≡ pages ++ at ∷ [] → NamePages g (take (i + 1) args) more
named_more g args pages more i d at below named next grown =
    AllZip-take_more (λ arg at. NamesPage g arg.now at) args pages more i d at below named next grown

-- each named page is on the disk
pub named_in_range : (g : Geometry) (args : List (Bor (List ℕ))) (pages : List (ℕ × ℕ)) → NamePages g args pages →
    All (λ (at : ℕ × ℕ). (at.0 < g.extents) × (at.1 < g.pages)) pages
named_in_range g [] [] named = All-nil (λ (at : ℕ × ℕ). (at.0 < g.extents) × (at.1 < g.pages))
named_in_range g [] (at ∷ pages) named = absurd named
named_in_range g (arg ∷ args) [] named = absurd named
named_in_range g (arg ∷ args) (at ∷ pages) named =
    All-cons (λ (at : ℕ × ℕ). (at.0 < g.extents) × (at.1 < g.pages)) at pages (named.0.in_extents, named.0.in_pages)
    (named_in_range g args pages named.1)
