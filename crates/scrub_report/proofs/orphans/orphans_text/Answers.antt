-- A comma if need be, and then the orphans of the piece.
use Rattle.std.proofs.Common.{◌≡◌, ◌++◌, ◌-◌, List, arith, length, ap, ap₂, drop, take, ◌∙◌}
use Rattle.std.proofs.lemmas.List.{length-drop, take_all, take_min}
use Rattle.json.specs.Print.{print}
use Rattle.json.specs.Token.{Token}
use Rattle.scrub_check.specs.declared.lists.place.Place.{Place}
use Rattle.scrub_report.specs.Report.{place_data}
use Rattle.scrub_report.specs.steps.Tokens.{shown_tokens}
use Rattle.scrub_report.proofs.PieceTexts.{part_shown}
use Rattle.scrub_report.proofs.orphans.orphans_text.Goals as goal

pub returns : goal.returns
returns c =
    let xs = c.args.orphans.now in
    let from = c.args.from in
    let rest = take (length xs - from) (drop from xs) in
    let whole : rest ≡ drop from xs = take_all (length xs - from) (drop from xs) (omega (arith, length-drop from xs)) in
    let piece : take c.min.result rest ≡ take 32768 (drop from xs) =
    ap (λ n. take n rest) c.min.ensures ∙ take_min 32768 rest ∙ ap (take 32768) whole in
    c.into_inner.ensures.items
    ∙ ap₂ (λ b ts. b ++ print ts) (c.in_ok-write_elements.ensures.before ∙ c.new-out.ensures.before ∙ c.in_ok-comma_if.ensures)
    (c.in_ok-write_elements.ensures.tokens
    ∙ ap₂ (λ (ts : List Token) (ps : List Place). ts ++ shown_tokens place_data ps) c.new-out.ensures.tokens piece
    ∙ part_shown place_data xs from 32768)
