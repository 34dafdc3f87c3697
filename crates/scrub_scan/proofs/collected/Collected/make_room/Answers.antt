-- What is settled is collected.
use Rattle.std.proofs.Common.{◌≡◌, ◌<◌, subst}
use Rattle.std.proofs.lemmas.Result.{IfOk-weaker}
use Rattle.scrub_scan.specs.steps.Gathering.{IsCollected, IsSettled}
use Rattle.scrub_scan.proofs.Gathering.{grows_none}
use Rattle.scrub_scan.proofs.Seals.{collected_left, settled_collected}
use Rattle.scrub_scan.proofs.collected.Collected.make_room.Goals as goal

pub returns-clause-collected : goal.returns-clause-collected
returns-clause-collected g c = λ x positive held.
    let p = c.settle.new.payloads in
    IfOk-weaker c.settle.result (λ right. IsSettled x right p c.settle.new.self) (λ right. right ≡ c.args.place → IsCollected x c.args.place p c.settle.new.self)
    (λ right settled same. subst (λ q. IsCollected x q p c.settle.new.self) same (settled_collected x right p c.settle.new.self positive settled))
    (c.settle.ensures.settled x (collected_left x c.args.place c.args.payloads.now c.args.self.now held))

pub returns-clause-settled : goal.returns-clause-settled
returns-clause-settled g c = λ x held.
    let p = c.settle.new.payloads in
    IfOk-weaker c.settle.result (λ right. IsSettled x right p c.settle.new.self) (λ right. right < c.args.place → IsSettled x right p c.settle.new.self)
    (λ right settled _. settled) (c.settle.ensures.settled x (collected_left x c.args.place c.args.payloads.now c.args.self.now held))

pub returns-clause-right : goal.returns-clause-right
returns-clause-right g c = λ x held.
    c.settle.ensures.right x (collected_left x c.args.place c.args.payloads.now c.args.self.now held)

pub returns-then-can_wait-clause-grows : goal.returns-then-can_wait-clause-grows
returns-then-can_wait-clause-grows g c = grows_none c.args.payloads.now
