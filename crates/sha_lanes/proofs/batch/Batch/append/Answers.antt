use Rattle.std.proofs.Common.{◌++◌, ◌∙◌, ap, List, ℕ}
use Rattle.std.proofs.lemmas.List.{drop-append-le}
use Rattle.sha_lanes.proofs.Gathering.{grown}
use Rattle.sha_lanes.proofs.batch.Batch.append.Goals as goal

pub returns-clause-appended : goal.returns-clause-appended
returns-clause-appended c = λ messages next held.
    let batch = c.args.self.now in
    record {
      messages_are =
          rw c.in_ok-extend_from_slice.ensures.items
          (grown batch.bytes.items c.args.part.now batch.begun batch.spans.items messages batch.begun_within batch.spans_within held.messages_are);
      next_is =
          rw c.in_ok-extend_from_slice.ensures.items
          (drop-append-le batch.begun batch.bytes.items c.args.part.now batch.begun_within
          ∙ ap (λ (xs : List ℕ). xs ++ c.args.part.now) held.next_is);
    }
