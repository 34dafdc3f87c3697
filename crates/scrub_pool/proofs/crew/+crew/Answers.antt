use Rattle.std.proofs.Common.{rules, ◌≡◌, ◌∙◌, false, ◌++◌, ◌∷◌, [], None, length}
use Rattle.list_facts.proofs.Elements.{All-last, All-one_more}
use Rattle.scrub_book.specs.Worker.{held_by, results_of}
use Rattle.scrub_pool.specs.declared.crew.Member.{Member}
use Rattle.scrub_pool.specs.declared.crew.NewMember.{NewMember}
use Rattle.scrub_pool.specs.steps.Working.{IsNewMember, HasEnded, AreDone}
use Rattle.scrub_pool.proofs.Crews.{counted_more}
use Rattle.scrub_pool.proofs.crew.+crew.Goals as goal

pub run_crew-returns-clause-members : goal.run_crew-returns-clause-members
run_crew-returns-clause-members g t c =
    let members = c.run_crew_and_worker-members.result.0.0.items in
    let member : Member g.row.D.Denot g.D.PageSource = record {
      pass = c.run_crew_and_worker-members.new.first;
      core = c.run_crew_and_worker-members.result.1.0;
    } in
    let is : c.push.new.self.items ≡ members ++ member ∷ [] = search rules in
    let new_member : NewMember = record { number = c.in-Some.number; pass = c.in-Some.pass } in
    let rest : c.args.new_members.items ≡ c.pop.new.self.items ++ new_member ∷ [] = search rules in
    let other : new_member.pass.first ≡ false =
    (All-last (λ m. IsNewMember c.args.job.now.queue.now c.args.job.now.plan.now.planned m) c.pop.new.self.items c.args.new_members.items new_member rest c.requires.crew).1 in
    let same : c.run_crew_and_worker-members.new.first.first ≡ new_member.pass.first = search rules in
    let ended : HasEnded c.args.job.now.queue.now c.args.job.now.plan.now (g.D.PageSource.image c.args.disk.now) member =
    (same ∙ other, c.run_crew_and_worker-members.ensures.core) in
    All-one_more (λ m. HasEnded c.args.job.now.queue.now c.args.job.now.plan.now (g.D.PageSource.image c.args.disk.now) m)
    members c.push.new.self.items member is c.run_crew_and_worker-members.ensures.members ended

pub run_crew-returns-clause-whole : goal.run_crew-returns-clause-whole
run_crew-returns-clause-whole g t c =
    let theirs = c.in-Some-Some.theirs in
    let mine = c.in-Some-Some.mine in
    let members = c.run_crew_and_worker-members.result.0.0.items in
    let member : Member g.row.D.Denot g.D.PageSource = record {
      pass = c.run_crew_and_worker-members.new.first;
      core = c.run_crew_and_worker-members.result.1.0;
    } in
    let is : c.push.new.self.items ≡ members ++ member ∷ [] = search rules in
    let done : AreDone theirs.parts theirs.amount members = search rules in
    let one : (held_by member.core ≡ None) × (mine.parts ≡ 1) × (mine.amount ≡ length (results_of member.core)) =
    search rules in (
      counted_more theirs.parts mine.parts c.merge.new.self.parts theirs.amount mine.amount c.merge.new.self.amount
          members c.push.new.self.items member is done one c.merge.ensures.parts c.merge.ensures.amount,
      search rules,
    )
