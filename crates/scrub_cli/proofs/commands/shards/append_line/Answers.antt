-- What is written of a remark is its line.
use Rattle.std.proofs.Common.{◌≡◌, ◌/◌, ◌%◌, ◌++◌, ◌∷◌, [], ℕ, List, codes, ap, sym, ◌∙◌, append_assoc}
use Rattle.std.specs.Prelude.{string_bytes}
use Rattle.std.specs.Fmt.{decimal}
use Rattle.scrub_scan.specs.Line.{spaced}
use Rattle.scrub_compare.proofs.ExtentLines.{on_ok}
use Rattle.scrub_cli.specs.Fault.{line}
use Rattle.scrub_cli.proofs.commands.shards.append_line.Goals as goal

run_line : (old number state : List ℕ) →
    old ++ (codes "shardscrub: run lost: " ++ (number ++ (codes " " ++ (state ++ 10 ∷ []))))
    ≡ old ++ line (codes "run lost:" ++ spaced number ++ spaced state)
run_line old number state =
    ap (λ (t : List ℕ). old ++ (codes "shardscrub: run lost: " ++ t)) (sym (append_assoc number (codes " " ++ state) (10 ∷ [])))

lost_line : (old id tens ones : List ℕ) →
    old ++ (codes "shardscrub: payload lost: " ++ (id ++ (codes " " ++ (tens ++ (ones ++ 10 ∷ [])))))
    ≡ old ++ line (codes "payload lost:" ++ spaced id ++ spaced (tens ++ ones))
lost_line old id tens ones =
    ap (λ (t : List ℕ). old ++ (codes "shardscrub: payload lost: " ++ (id ++ (codes " " ++ t)))) (sym (append_assoc tens ones (10 ∷ [])))
    ∙ ap (λ (t : List ℕ). old ++ (codes "shardscrub: payload lost: " ++ t)) (sym (append_assoc id (codes " " ++ (tens ++ ones)) (10 ∷ [])))

pub returns-in-RunLost : goal.returns-in-RunLost
returns-in-RunLost c =
    let old = string_bytes c.args.lines.now in
    let number : List ℕ = decimal c.in-RunLost.number in
    rw c.in-RunLost.is
    (on_ok c.writeln-in-RunLost.result _ _ c.writeln-in-RunLost.ensures.bytes
    (λ same. same ∙ run_line old number c.state_text-state.result.now
    ∙ ap (λ (s : List ℕ). old ++ line (codes "run lost:" ++ spaced number ++ spaced s)) c.state_text-state.ensures))

pub returns-in_ok-id-in-ShardLost : goal.returns-in_ok-id-in-ShardLost
returns-in_ok-id-in-ShardLost c =
    let old = string_bytes c.args.lines.now in
    let n = c.in-ShardLost.number in
    let digits : List ℕ = decimal (n / 10) ++ decimal (n % 10) in
    rw c.in-ShardLost.is
    (on_ok c.writeln-in-ShardLost.result _ _ c.writeln-in-ShardLost.ensures.bytes
    (λ same. same ∙ lost_line old (string_bytes c.in_ok-id-in-ShardLost.id) (decimal (n / 10)) (decimal (n % 10))
    ∙ ap (λ (i : List ℕ). old ++ line (codes "payload lost:" ++ spaced i ++ spaced digits)) c.in_ok-id-in-ShardLost.ensures))

pub returns-in_ok-id-in-ShardDoubtful : goal.returns-in_ok-id-in-ShardDoubtful
returns-in_ok-id-in-ShardDoubtful c =
    let old = string_bytes c.args.lines.now in
    rw c.in-ShardDoubtful.is
    (on_ok c.writeln-in-ShardDoubtful.result _ _ c.writeln-in-ShardDoubtful.ensures.bytes
    (λ same. same ∙ ap (λ (i : List ℕ). old ++ line (codes "a newer entry may be lost:" ++ spaced i)) c.in_ok-id-in-ShardDoubtful.ensures))
