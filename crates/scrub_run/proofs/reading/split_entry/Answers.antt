-- If the bytes begin with an entry, its number of locators and its length are as they claim.
use Rattle.std.proofs.Common.{◌≡◌, ◌+◌, ◌*◌, length, get_or, arith, inl, inr, sym, ◌∙◌}
use Rattle.std.proofs.lemmas.List.{get_or-take}
use Rattle.scrub_run.proofs.Entries.{entry_stands}
use Rattle.scrub_run.proofs.reading.split_entry.Goals as goal
use Rattle.scrub_run.proofs.reading.split_entry.Goals.{After-split_at}

pub returns-then-count-gt-MAX_LOCATORS-clause-none : goal.returns-then-count-gt-MAX_LOCATORS-clause-none
returns-then-count-gt-MAX_LOCATORS-clause-none c = λ e rest h same.
    let stands = entry_stands c.args.bytes.now e rest h same in
    let count : c.in_ok-count.field-0.now ≡ length e.locators = c.in_ok-count.ensures.lookup.3.1 0 ∙ stands.0 in
    elim c.then-count-gt-MAX_LOCATORS.either [
      | inl many ↦ omega (arith, many, h.1, count)
      | inr short ↦ omega (arith, short.1, stands.1, count)
    ]

-- the number of locators is in the entry
count_in : (c : After-split_at) → get_or c.split_at.result.0.now 16 0 ≡ c.in_ok-count.field-0.now
count_in c =
    rw c.split_at.ensures.front
    (get_or-take (17 + 60 * c.in_ok-count.field-0.now) c.args.bytes.now 16 0 (omega arith) ∙ sym (c.in_ok-count.ensures.lookup.3.1 0))

pub returns-clause-long : goal.returns-clause-long
returns-clause-long c =
    omega (arith, count_in (goal.at.returns-clause-long c).After-split_at, c.split_at.ensures.front_len)

pub returns-clause-few : goal.returns-clause-few
returns-clause-few c = omega (arith, count_in (goal.at.returns-clause-few c).After-split_at)
