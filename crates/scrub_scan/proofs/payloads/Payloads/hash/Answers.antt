-- The digests of the first payloads, and of the others.
use Rattle.std.proofs.Common.{◌≡◌, ◌++◌, ◌∙◌, [], List, ℕ, ap, append-nil, map, sym}
use Rattle.std.proofs.lemmas.List.{map-append}
use Rattle.sha2.specs.Sha256.{sha256}
use Rattle.scrub_scan.proofs.payloads.Payloads.hash.Goals as goal

pub returns : goal.returns
returns c = λ all h.
    let old = c.args.self.now.digests.items in
    let is : c.extend_from_slice.new.self.items ≡ map sha256 all =
    c.in_ok-extend_from_slice.ensures.items
    ∙ ap (λ (xs : List (List ℕ)). old ++ xs) (c.deref.ensures.value ∙ c.in_ok-digests.ensures h.rest [] h.gathers)
    ∙ ap (λ (xs : List (List ℕ)). xs ++ map sha256 h.rest) h.digests
    ∙ sym (map-append sha256 h.hashed h.rest) ∙ ap (map sha256) (sym h.all_are) in (
      is,
      record { hashed = all; rest = []; all_are = sym (append-nil all); digests = is; gathers = c.clear.ensures },
    )
