-- The later generation is the lower one.
use Rattle.std.proofs.Common.{◌≡◌, ◌++◌, ◌∷◌, [], ℕ, List, Bool, OnOk, codes, ap, subst, sym, ◌∙◌, append_assoc, if◌then◌else◌}
use Rattle.std.specs.Prelude.{string_bytes}
use Rattle.std.specs.Fmt.{decimal}
use Rattle.scrub_scan.specs.Line.{spaced}
use Rattle.scrub_compare.proofs.ExtentLines.{on_ok}
use Rattle.scrub_compare.proofs.comparing.append_generation.Goals as goal

pub returns : goal.returns
returns c =
    let text = string_bytes c.args.text.now in
    let head : List ℕ = codes "generation" ++ spaced (decimal c.args.old) in
    let rest : List ℕ = spaced (decimal c.args.new) in
    let end : List ℕ = 10 ∷ [] in
    let first : string_bytes c.write.new.self ≡ text ++ head = c.in_ok-write.ensures.bytes in
    subst (λ (b : Bool). OnOk c.writeln.result (string_bytes c.writeln.new.self ≡ text ++ (if b then head ++ rest ++ end else []))) c.if-not-is_lower.ensures
    (on_ok c.writeln.result _ _ c.writeln.ensures.bytes
    (λ same. same ∙ ap (λ (u : List ℕ). u ++ (rest ++ end)) first ∙ append_assoc text head (rest ++ end) ∙ ap (λ (u : List ℕ). text ++ u) (sym (append_assoc head rest end))))
