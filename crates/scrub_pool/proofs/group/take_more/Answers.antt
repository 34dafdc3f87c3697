-- One more is behind those before.
use Rattle.std.proofs.Common.{◌++◌, ◌∙◌, ◌∷◌, [], List, ℕ, ap, append_assoc, arith, drop, length, sym}
use Rattle.std.proofs.lemmas.List.{length_push}
use Rattle.std.proofs.lemmas.List.Elements.{All-push}
use Rattle.std.specs.Prelude.{Contains}
use Rattle.scrub_pool.specs.Passes.{PassValue}
use Rattle.scrub_pool.proofs.Groups.{more_behind}
use Rattle.scrub_pool.proofs.group.take_more.Goals as goal

pub loop-taken-preserved : goal.loop-taken-preserved
loop-taken-preserved g c =
    let h = c.loop-taken.invariant in
    let took = c.in-Some.ensures.taken in
    let m = c.in-Some.more in
    let xs = c.loop-taken.group.items in
    let own = c.args.pass.now.own in
    let planned = c.args.job.now.plan.now.planned in
    let behind = more_behind c.args.extent m xs h.first in
    let items = c.in_ok-push.ensures.items in
    let size = ap (λ (l : List ℕ). length l) items in
    record {
      part = (
        ap (λ (p : PassValue). p.first) took.is ∙ h.part.0,
        ap (λ (p : PassValue). p.joined) took.is ∙ h.part.1,
        ap (λ (p : PassValue). p.out) took.is ∙ h.part.2,
      );
      same = (ap (λ (p : PassValue). p.queue) took.is ∙ h.same.0, ap (λ (p : PassValue). p.planned) took.is ∙ h.same.1);
      first = rw items behind.0;
      own =
          ap (λ (p : PassValue). p.own) took.is ∙ ap (λ (l : List ℕ). l ++ m ∷ []) h.own ∙ append_assoc own (drop 1 xs) (m ∷ [])
          ∙ ap (λ (l : List ℕ). own ++ l) (sym behind.1) ∙ ap (λ (l : List ℕ). own ++ drop 1 l) (sym items);
      planned = rw items (All-push (λ e. Contains planned e) xs m h.planned (rw h.same.1 at took.planned));
      count = omega (arith, size, length_push xs m, h.count);
      few = omega (arith, size, length_push xs m, h.count, c.loop-taken-test.true, c.wanted-taken-end.ensures);
    }
