-- Part by part.
use Rattle.std.proofs.Common.{◌++◌, ◌∷◌, [], ap, ◌∙◌}
use Rattle.json.specs.Print.{print}
use Rattle.scrub_report.specs.steps.Tokens.{values_tokens}
use Rattle.scrub_report.proofs.Tokens.{chain}
use Rattle.scrub_report.proofs.report.joined.Goals as goal

pub returns : goal.returns
returns c = λ xs ys n m some more extents orphans.
    let t0 = c.args.begun.items in
    let t1 = c.append_pieces.new.text.items in
    let t2 = c.extend_from_slice.new.self.items in
    let t3 = c.append_pieces-2.new.text.items in
    let t4 = c.extend_from_slice-2.new.self.items in
    let x1 = print (values_tokens xs) in
    let x2 = c.args.later.middle.items in
    let x3 = print (values_tokens ys) in
    let x4 = c.args.later.end.items in
    let e1 = c.in_ok-append_pieces.ensures xs n some extents ∙ ap (λ t. t ++ x1) c.in_ok-reserve.ensures.items in
    let e2 = c.in_ok-extend_from_slice.ensures.items ∙ ap (λ t. t1 ++ t) c.deref-3.ensures.value in
    let e3 = c.in_ok-append_pieces-2.ensures ys m more orphans in
    let e4 = c.in_ok-extend_from_slice-2.ensures.items ∙ ap (λ t. t3 ++ t) c.deref-4.ensures.value in
    c.in_ok-push.ensures.items
    ∙ ap (λ t. t ++ 10 ∷ [])
    (chain t0 t1 t4 x1 (x2 ++ (x3 ++ x4)) e1 (chain t1 t2 t4 x2 (x3 ++ x4) e2 (chain t2 t3 t4 x3 x4 e3 e4)))
