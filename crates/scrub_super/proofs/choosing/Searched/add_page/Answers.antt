-- One page down, with a record on it or without.
use Rattle.std.proofs.Common.{refl}
use Rattle.std.proofs.lemmas.Bool.{false≢true}
use Rattle.scrub_super.proofs.BytesFromPages.{bytes_of_stands, newest_more, none_more, older_more, stands_of_bytes}
use Rattle.scrub_super.proofs.choosing.Searched.add_page.Goals as goal

pub returns-in_default-clause-found : goal.returns-in_default-clause-found
returns-in_default-clause-found c = λ pages h before.
    none_more h (rw c.in_default.is at c.in_ok-superblock.ensures.none) before

pub returns-then-not-is_newest-clause-found : goal.returns-then-not-is_newest-clause-found
returns-then-not-is_newest-clause-found c = λ pages h before.
    older_more h (rw c.in-Some.is at c.in_ok-superblock.ensures.found)
    (rw c.generation.ensures at c.with_record-self.ensures) (λ e. false≢true (c.if-not-is_newest.ensures.1 e)) before

pub returns-clause-found : goal.returns-clause-found
returns-clause-found c = λ pages h before.
    newest_more h (rw c.in-Some.is at c.in_ok-superblock.ensures.found)
    (rw c.generation.ensures at c.with_record-self.ensures) (c.if-not-is_newest.ensures.0 refl) before

pub returns-in_default-clause-on_page : goal.returns-in_default-clause-on_page
returns-in_default-clause-on_page c = λ pages h x.
    (rw c.in_default.is at c.in_ok-superblock.ensures.none) x.0 (bytes_of_stands h x.1)

pub returns-clause-on_page : goal.returns-clause-on_page
returns-clause-on_page c = λ pages h.
    (_, stands_of_bytes h (rw c.in-Some.is at c.in_ok-superblock.ensures.found), c.of-record.ensures)

pub returns-then-not-is_newest-clause-on_page : goal.returns-then-not-is_newest-clause-on_page
returns-then-not-is_newest-clause-on_page c = λ pages h.
    (_, stands_of_bytes h (rw c.in-Some.is at c.in_ok-superblock.ensures.found), c.of-record.ensures)
