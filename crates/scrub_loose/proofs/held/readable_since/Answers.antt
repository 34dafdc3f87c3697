-- One more page, readable or not.
use Rattle.std.proofs.Common.{◌∙◌, ◌+◌, ap, length}
use Rattle.std.proofs.lemmas.List.{length_push}
use Rattle.scrub_loose.specs.steps.Held.{IsSince}
use Rattle.scrub_loose.proofs.BytesInMemory.{open_more, since_lost, since_more, since_read}
use Rattle.scrub_loose.proofs.held.readable_since.Goals as goal
use Rattle.scrub_loose.proofs.held.readable_since.Goals.{then-not-readable-page, else-not-readable-page}

pub loop-page-preserved : goal.loop-page-preserved
loop-page-preserved c =
    let readable = c.args.readable.now in
    let n = c.loop-page.page in
    let s = c.if-not-readable-page.first in
    let here : IsSince readable n s = elim c.if-not-readable-page.branch [
      | then-not-readable-page w ↦ rw w.first-is (since_lost readable n w.if-not-readable-page.true)
      | else-not-readable-page w ↦ rw w.first-is (since_read readable n c.loop-page.first c.loop-page.invariant.run w.if-not-readable-page.false)
    ] in
    record {
      count = ap (λ l. length l) c.in_ok-push.ensures.items ∙ length_push c.loop-page.since.items s ∙ ap (λ m. m + 1) c.loop-page.invariant.count;
      each = since_more readable n s c.loop-page.since.items c.push.new.self.items c.loop-page.invariant.count c.in_ok-push.ensures.items c.loop-page.invariant.each here;
      run = open_more readable n s here;
    }
