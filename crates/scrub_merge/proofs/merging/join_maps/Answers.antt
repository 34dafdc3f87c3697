-- The maps of the two parts, one after the other.
use Rattle.std.proofs.lemmas.Result.{IfOk-weaker}
use Rattle.scrub_merge.proofs.Parted.{maps_joined}
use Rattle.scrub_merge.proofs.merging.join_maps.Goals as goal

pub returns : goal.returns
returns c = λ runs before others.
    IfOk-weaker c.followed_by.result _ _
    (λ whole is. rw is (maps_joined runs c.args.id c.args.first c.args.rest before others))
    c.followed_by.ensures
