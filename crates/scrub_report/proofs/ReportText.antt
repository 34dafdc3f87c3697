-- The text of the report is that of its parts.
use Rattle.std.proofs.Common.{◌≡◌, ℕ, List, [], ◌∷◌, ◌++◌, Bool, true, false, Result, Ok, Err, codes, refl, sym, ap, ◌∙◌}
use Rattle.std.specs.Prelude.{IfOk, Vec}
use Rattle.std.proofs.lemmas.List.Sums.{fold-append}
use Rattle.json.specs.Token.{Token, begin_array, begin_object, end_array, end_object, key}
use Rattle.json.specs.Print.{ends, print, print_from}
use Rattle.json.proofs.Printed.Tokens.{print_from-append}
use Rattle.serde_json.specs.Data.{Data}
use Rattle.serde_json.specs.Written.{compact_text}
use Rattle.serde_json.proofs.Texts.{print-outline}
use Rattle.scrub_report.specs.Json.{with_keys}
use Rattle.scrub_run.specs.declared.shard_id.ShardId.{ShardId}
use Rattle.scrub_report.specs.declared.listed.Listed.{Listed}
use Rattle.scrub_report.specs.declared.report.LaterTexts.{LaterTexts}
use Rattle.scrub_report.specs.steps.Tokens.{AreLaterTexts, all_keys, begun_tokens, ended_tokens, first_keys, joined_text, last_keys, later_keys, listed_extents, listed_orphans, listed_text, members_tokens, middle_keys, middle_tokens, value_tokens, values_tokens}
use Rattle.scrub_report.proofs.PieceTexts.{left}
use Rattle.scrub_report.proofs.Tokens.{list_within, object_tokens}

-- a closing bracket has no comma before it
closing : (c : Bool) (ts : List Token) → print_from c (end_array ∷ ts) ≡ print (end_array ∷ ts)
unfolding print_from
closing true ts = refl
closing false ts = refl

-- the text up to the first value of a list, that of its values, and the text from its closing bracket on
parts_printed : (opens : List Token) (ds : List Data) (ts : List Token) → left false opens ≡ false →
    print (opens ++ (values_tokens ds ++ end_array ∷ ts)) ≡ print opens ++ (print (values_tokens ds) ++ print (end_array ∷ ts))
parts_printed opens ds ts begun =
    let rest = values_tokens ds ++ end_array ∷ ts in
    print_from-append false opens rest ∙ ap (λ c. print opens ++ print_from c rest) begun
    ∙ ap (λ t. print opens ++ t)
    (print_from-append false (values_tokens ds) (end_array ∷ ts) ∙ ap (λ t. print (values_tokens ds) ++ t) (closing _ ts))

module _ {D : Type 0} (l : Listed D) (broken : List ShardId) (clean : Bool) where
  abbrev extents : List Token
  extents = values_tokens (listed_extents l)

  abbrev from_orphans : List Token
  from_orphans = values_tokens (listed_orphans l) ++ ended_tokens l

  later_written : end_array ∷ (members_tokens (later_keys l) ++ end_object ∷ []) ≡ middle_tokens l ++ from_orphans
  later_written =
      ap (λ ts. end_array ∷ ts)
      (list_within (middle_keys l) (last_keys l) (codes "orphans") (listed_orphans l) (end_object ∷ []))

  report_tokens : value_tokens (with_keys (all_keys l broken clean)) ≡ begun_tokens l broken clean ++ (extents ++ (middle_tokens l ++ from_orphans))
  report_tokens =
      object_tokens (all_keys l broken clean)
      ∙ ap (λ ts. begin_object ∷ ts)
      (list_within (first_keys l broken clean) (later_keys l) (codes "extents") (listed_extents l) (end_object ∷ []))
      ∙ ap (λ ts. begun_tokens l broken clean ++ (extents ++ ts)) later_written

  begun_open : left false (begun_tokens l broken clean) ≡ false
  begun_open =
      fold-append (λ _ t. ends t) false (members_tokens (first_keys l broken clean)) (key (codes "extents") ∷ begin_array ∷ [])

  middle_open : left false (middle_tokens l) ≡ false
  middle_open =
      fold-append (λ _ t. ends t) true (members_tokens (middle_keys l)) (key (codes "orphans") ∷ begin_array ∷ [])

  report_printed : compact_text (with_keys (all_keys l broken clean))
      ≡ print (begun_tokens l broken clean) ++ (print extents ++ (print (middle_tokens l) ++ (print (values_tokens (listed_orphans l)) ++ print (ended_tokens l))))
  report_printed =
      sym (print-outline (with_keys (all_keys l broken clean))) ∙ ap print report_tokens
      ∙ parts_printed (begun_tokens l broken clean) (listed_extents l) _ begun_open
      ∙ ap (λ t. print (begun_tokens l broken clean) ++ (print extents ++ t))
      (parts_printed (middle_tokens l) (listed_orphans l) (members_tokens (last_keys l) ++ end_object ∷ []) middle_open)

  -- The parts, each right, are joined to the text of the report.
  pub report_joined : {Z : Type 0} {E : Type 0} (r : Result (Vec ℕ Z) E) (begun : List ℕ) (later : LaterTexts) →
      begun ≡ print (begun_tokens l broken clean) → AreLaterTexts l later →
      IfOk r (λ text. text.items ≡ joined_text begun (listed_extents l) later.middle.items (listed_orphans l) later.end.items) →
      IfOk r (λ text. text.items ≡ listed_text l broken clean)
  report_joined (Ok text) begun later first are is =
      is ∙ (λ i. joined_text (first i) (listed_extents l) (are.middle i) (listed_orphans l) (are.end i))
      ∙ ap (λ t. t ++ 10 ∷ []) (sym report_printed)
  report_joined (Err e) begun later first are is = tt
