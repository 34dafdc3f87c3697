-- Where the generation of the last superblock is given and an extent is listed, the superblock that counts has that generation.
use Rattle.std.proofs.Common.{◌≡◌, ◌≢◌, ◌==◌, ◌&&◌, ◌||◌, ◌∷◌, [], ℕ, Bool, true, false, List, Option, Some, None, refl, sym, ap, ◌∙◌, if◌then◌else◌}
use Rattle.std.specs.Option.{option_map, option_map_or}
use Rattle.std.specs.List.{list_all}
use Rattle.std.proofs.lemmas.Bool.{eqb-true, false≢true}
use Rattle.scrub_super.specs.Contents.{Contents}
use Rattle.scrub_super.specs.declared.pages.SuperblockPage.{SuperblockPage}
use Rattle.scrub_loose.specs.Loose.{LooseValue}
use Rattle.scrub_found.specs.Scrubbed.{Scrubbed}
use Rattle.scrub_listings.specs.Summary.{counts_as}
use Rattle.scrub_reclaim.specs.declared.doubts.Doubt.{Doubt}
use Rattle.scrub_reclaim.specs.declared.doubts.Doubt.TheVariants.{Last}
use Rattle.scrub_reclaim.specs.Doubts.{Acceptance, is_accepted, is_named, is_settled_by_last, last_doubts}
use Rattle.scrub_reclaim.specs.Reclaimable.{IsListedByLast, accepted_in, doubts_for, is_clear, reclaimed}
use Rattle.scrub_reclaim.proofs.DoubtParts.{of_last}
use Rattle.scrub_reclaim.proofs.SoundDisks.{all_weaker}

-- what settles a doubt may be left open
settled_or_not : (a b c : Bool) → (a || (b && c)) ≡ true → (a || c) ≡ true
settled_or_not true b c e = refl
settled_or_not false true c e = e
settled_or_not false false c e = absurd (false≢true e)

-- the doubt of the last superblock is never accepted
none_of_last : (accepted : Acceptance) (found : Scrubbed) (last : ℕ) (ds : List Doubt) →
    ds ≡ (if counts_as found.choice last then [] else Last (option_map (λ (c : Contents). c.generation) found.choice.superblock) last ∷ []) →
    list_all (is_accepted (accepted_in accepted found)) ds ≡ true → counts_as found.choice last ≡ true
none_of_last accepted found last ds are all = by (counts_as found.choice last) refl
  where
    never : (b : Bool) → ((b && false) && true) ≡ true → ⊥
    never true e = false≢true e
    never false e = false≢true e

    by : (b : Bool) → counts_as found.choice last ≡ b → counts_as found.choice last ≡ true
    by true is = is
    by false is =
        let one : ds ≡ Last (option_map (λ (c : Contents). c.generation) found.choice.superblock) last ∷ [] =
        are ∙ ap (λ (t : Bool). if t then [] else Last (option_map (λ (c : Contents). c.generation) found.choice.superblock) last ∷ []) is in
        absurd (never (accepted_in accepted found).is_last (sym (ap (list_all (is_accepted (accepted_in accepted found))) one) ∙ all))

-- the superblock that counts, and its generation
the_one : (o : Option Contents) (last : ℕ) → option_map_or (λ c. c.generation == last) o false ≡ true →
    (c : Contents) × (o ≡ Some c) × (c.generation ≡ last)
the_one None last e = absurd (false≢true e)
the_one (Some c) last e = (c, refl, eqb-true c.generation last e)

-- If `last` is given and an extent is listed, the superblock that counts has this generation.
pub by_last : (accepted : Acceptance) (last : ℕ) (pages : List SuperblockPage) (loose : LooseValue) (found : Scrubbed) →
    accepted.last ≡ Some last → reclaimed accepted pages loose found ≢ [] → IsListedByLast last accepted pages loose found
by_last accepted last pages loose found given some = by (is_clear accepted pages loose found) refl
  where
    listed : is_clear accepted pages loose found ≡ true → IsListedByLast last accepted pages loose found
    listed clear =
        let of = of_last (is_accepted (accepted_in accepted found)) accepted.last pages loose found clear in
        let counted : counts_as found.choice last ≡ true =
        none_of_last accepted found last (last_doubts found.choice accepted.last) (ap (last_doubts found.choice) given) of in
        let one = the_one found.choice.superblock last counted in
        record {
          counts = one.0;
          is = one.1;
          generation = one.2;
          each =
              all_weaker (is_accepted (accepted_in accepted found)) (λ d. is_named accepted.lines d || is_settled_by_last d) (doubts_for accepted pages loose found)
              (λ d. settled_or_not (is_named accepted.lines d) (accepted_in accepted found).is_last (is_settled_by_last d)) clear;
        }

    by : (b : Bool) → is_clear accepted pages loose found ≡ b → IsListedByLast last accepted pages loose found
    by true clear = listed clear
    by false doubt = absurd (some (ap (λ (t : Bool). if t then found.candidates else []) doubt))
