use Rattle.std.proofs.Common.{◌+◌, ◌++◌, ◌∷◌, ◌∙◌, [], ap, arith, map}
use Rattle.std.proofs.lemmas.List.{map_push, replicate_more}
use Rattle.std.proofs.lemmas.List.Elements.{All-push}
use Rattle.scrub_book.specs.declared.member.Member.{Member}
use Rattle.scrub_book.specs.steps.Member.{member_value, IsReady}
use Rattle.scrub_book.specs.Pool.{idle}
use Rattle.scrub_book.proofs.pool_core.new_members.Goals as goal

pub loop-preserved : goal.loop-preserved
loop-preserved g c =
    let m : Member g.row.D.Denot g.D.PageSource = c.in_ok-new.field-0 in
    let value = λ (x : Member g.row.D.Denot g.D.PageSource). member_value x in
    rw c.in_ok-push.ensures.items (record {
      values =
          map_push value c.loop.members.items m
          ∙ ap (λ v. map value c.loop.members.items ++ v ∷ []) c.in_ok-new.ensures.value
          ∙ ap (λ vs. vs ++ idle ∷ []) c.loop.invariant.values ∙ replicate_more c.loop.counter idle;
      ready = λ image. All-push (IsReady image) c.loop.members.items m (c.loop.invariant.ready image) (record {
        room = c.in_ok-new.ensures.room;
        images = rw c.in_ok-new.ensures.results (λ k d below. absurd (omega (arith, below)));
      });
    })
