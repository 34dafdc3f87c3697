-- Each half gives what it says of the checked locators.
use Rattle.scrub_report.proofs.answer.index_and_report.Goals as goal

pub returns-clause-index : goal.returns-clause-index
returns-clause-index g c = λ checked broken. rw c.in_ok-index.was at (c.join-index.ensures.first checked broken)

pub returns-clause-report : goal.returns-clause-report
returns-clause-report g c = λ image checked found are same shards broken.
    rw c.in_ok-report.was at (c.join-index.ensures.second image checked found are same shards broken)
