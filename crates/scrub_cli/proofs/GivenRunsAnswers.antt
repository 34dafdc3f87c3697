-- The index runs that arguments give, from what the parts find.
use Rattle.std.proofs.Common.{◌≡◌, ◌==◌, ◌<◌, ◌≤◌, ◌+◌, ◌∙◌, ◌++◌, ◌∷◌, [], ℕ, zero, suc, Bool, true, false, List, All, Option, None, Some, IfSome, Vec, Global, length, take, get_or, arith, ap, refl, sym, subst}
use Rattle.std.specs.Prelude.{if◌then◌else◌, option_map, slice_index_or}
use Rattle.std.specs.Borrow.{Bor}
use Rattle.std.specs.List.{list_any}
use Rattle.std.proofs.lemmas.Bool.{false≢true}
use Rattle.std.proofs.lemmas.Option.{none-some, same_Some}
use Rattle.std.proofs.lemmas.List.{take_all}
use Rattle.std.proofs.lemmas.List.Elements.{All-nil}
use Rattle.std.proofs.lemmas.List.Sums.{fold-append}
use Rattle.list_facts.proofs.Elements.{All-one_more}
use Rattle.list_facts.proofs.Zips.{AllZip-at, AllZip-take_more}
use Rattle.scrub_disk.specs.declared.geometry.Geometry.{Geometry as Sizes}
use Rattle.scrub_disk.specs.Image.{Image}
use Rattle.scrub_frame.specs.declared.locator.Locator.{Locator}
use Rattle.scrub_frame.specs.Locator.{IsLocator}
use Rattle.scrub_super.specs.steps.Limits.{AreRunLocators}
use Rattle.scrub_loose.specs.Outer.{IsRunThere}
use Rattle.scrub_args.specs.declared.args.ImageArgs.{ImageArgs}
use Rattle.scrub_cli.specs.DiskImage.{IsLoadedDisk}
use Rattle.scrub_cli.specs.GivenRuns.{AreRunsAt, GiveRuns, IsFirstNoRun, NameRuns, NamesRunPlace, is_of_place, once, with_one}
use Rattle.scrub_cli.specs.KnownFiles.{KnownMaps, KnownRaw}
use Rattle.scrub_cli.proofs.Rescues.{lost_geometry}

-- ---- locators

-- locators that are seen as a slice keep the limits
pub located_shown : (given : Option (Vec Locator Global)) (shown : Option (Bor (List Locator))) →
    option_map (λ runs. runs.now) shown ≡ option_map (λ (runs : Vec Locator Global). runs.items) given →
    IfSome given (λ runs. AreRunLocators runs.items) → IfSome shown (λ runs. AreRunLocators runs.now)
located_shown given None same located = tt
located_shown None (Some runs) same located = absurd (none-some runs.now (sym same))
located_shown (Some given) (Some runs) same located = subst AreRunLocators (sym (same_Some runs.now given.items same)) located

-- ---- places

-- one more argument, and the place that it names
pub named_run_more : (g : Sizes) (args : List (Bor (List ℕ))) (places more : List (ℕ × ℕ)) (i : ℕ) (d : Bor (List ℕ)) (at : ℕ × ℕ) →
    i < length args → NameRuns g (take i args) places → NamesRunPlace g (get_or args i d).now at →
    more ≡ places ++ at ∷ [] → NameRuns g (take (i + 1) args) more
named_run_more g args places more i d at below named next grown =
    AllZip-take_more (λ arg at. NamesRunPlace g arg.now at) args places more i d at below named next grown

-- there is a place for each argument
pub one_place_each : (g : Sizes) (args : List (Bor (List ℕ))) (places : List (ℕ × ℕ)) → NameRuns g args places →
    length places ≡ length args
one_place_each g [] [] named = refl
one_place_each g [] (at ∷ places) named = absurd named
one_place_each g (arg ∷ args) [] named = absurd named
one_place_each g (arg ∷ args) (at ∷ places) named = omega (arith, one_place_each g args places named.1)

-- the place of an argument
pub place_of : (g : Sizes) (args : List (Bor (List ℕ))) (places : List (ℕ × ℕ)) (i : ℕ) (d : Bor (List ℕ)) (at : ℕ × ℕ) →
    NameRuns g args places → i < length args → NamesRunPlace g (get_or args i d).now (get_or places i at)
place_of g args places i d at named below = AllZip-at (λ arg at. NamesRunPlace g arg.now at) args places i d at below named

-- there is an argument, if the list isn't empty
pub some_given : (n : ℕ) → (n == 0) ≡ false → 0 < n
some_given zero is = absurd (false≢true (sym is))
some_given (suc n) is = omega arith

-- ---- runs

-- one more locator, of a place that may be known
pub once_more : (all : List Locator) (l : Locator) → once (all ++ l ∷ []) ≡ with_one (once all) l
once_more all l = fold-append with_one [] all (l ∷ [])

-- each of them is still a locator
pub located_more : (runs more : List Locator) (l : Locator) → All IsLocator runs → IsLocator l → more ≡ with_one runs l → All IsLocator more
located_more runs more l all one grown = by (list_any (is_of_place l.extent l.offset) runs) grown
  where
    by : (b : Bool) → more ≡ (if b then runs else runs ++ l ∷ []) → All IsLocator more
    by true is = subst (All IsLocator) (sym is) all
    by false is = All-one_more IsLocator runs more l is all one

-- the runs at the first places
pub record AreFirstRuns (image : Image) (places : List (ℕ × ℕ)) (count : ℕ) (runs : List Locator) : Type 0 where
  pub all : List Locator
  pub there : AreRunsAt image (take count places) all
  pub runs_are : runs ≡ once all
  pub located : All IsLocator runs

-- there are none yet
pub no_runs_yet : (image : Image) (places : List (ℕ × ℕ)) → AreFirstRuns image places 0 []
no_runs_yet image places = record { all = []; there = tt; runs_are = refl; located = All-nil IsLocator }

-- one more, at the next place
pub first_runs_more : (image : Image) (places : List (ℕ × ℕ)) (count : ℕ) (runs more : List Locator) (at : ℕ × ℕ) (l : Locator) →
    count < length places → AreFirstRuns image places count runs →
    IsRunThere image (get_or places count at).0 (get_or places count at).1 l → IsLocator l → more ≡ with_one runs l →
    AreFirstRuns image places (count + 1) more
first_runs_more image places count runs more at l below first there one grown = record {
  all = first.all ++ l ∷ [];
  there = AllZip-take_more (λ at l. IsRunThere image at.0 at.1 l) places first.all (first.all ++ l ∷ []) count at l below first.there there refl;
  runs_are = grown ∙ ap (λ (rs : List Locator). with_one rs l) first.runs_are ∙ sym (once_more first.all l);
  located = located_more runs more l first.located one grown;
}

-- once there is a run for each place, these are the runs that the arguments give
pub all_runs : (image : Image) (args : List (Bor (List ℕ))) (places : List (ℕ × ℕ)) (count : ℕ) (runs : List Locator) →
    NameRuns image.geometry args places → length args ≤ count → AreFirstRuns image places count runs → GiveRuns image args runs
all_runs image args places count runs named enough first = record {
  places = places;
  named = named;
  all = first.all;
  there =
      subst (λ (at : List (ℕ × ℕ)). AreRunsAt image at first.all)
      (take_all count places (omega (arith, one_place_each image.geometry args places named, enough))) first.there;
  runs_are = first.runs_are;
}

-- there is none at the next place, that of this argument
pub no_run_there : (image : Image) (args : List (Bor (List ℕ))) (places : List (ℕ × ℕ)) (count : ℕ) (runs : List Locator) (arg : Bor (List ℕ)) (at : ℕ × ℕ) →
    NameRuns image.geometry args places → count < length args → arg ≡ slice_index_or args count arg → AreFirstRuns image places count runs →
    ((l : Locator) → IsRunThere image (get_or places count at).0 (get_or places count at).1 l → ⊥) → IsFirstNoRun image args arg
no_run_there image args places count runs arg at named below stands first none = record {
  place = count;
  within = below;
  stands = stands;
  places = places;
  named = named;
  runs = first.all;
  before = first.there;
  at = get_or places count at;
  names = subst (λ (a : Bor (List ℕ)). NamesRunPlace image.geometry a.now (get_or places count at)) (sym stands) (place_of image.geometry args places count arg at named below);
  none = none;
}

-- ---- the disk

-- an image that was loaded for a disk of some sizes has them
pub loaded_geometry : (known : KnownRaw) (maps : KnownMaps) (args : ImageArgs) (g : Sizes) (image : Image) → IsLoadedDisk known maps args g image →
    image.geometry ≡ g
loaded_geometry known maps args g image x = lost_geometry x.blocks x.before image x.rescued ∙ x.loaded.geometry
