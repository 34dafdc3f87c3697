-- The line of the locator, and then that of its copies.
use Rattle.std.specs.Prelude.{string_bytes}
use Rattle.scrub_listings.specs.Locators.{copies_lines, locator_line}
use Rattle.scrub_listings.proofs.FlatLists.{appended_ok}
use Rattle.scrub_listings.proofs.listing.append_one.Goals as goal

pub returns : goal.returns
returns c =
    rw (c.spares_of.ensures, c.loose_of.ensures) at
    (appended_ok c.append_copies.result (string_bytes c.args.text.now) (string_bytes c.append_line.new.text) (string_bytes c.append_copies.new.text)
    (locator_line c.args.one.now) (copies_lines c.spares_of.result.now c.loose_of.result.now) c.in_ok-append_line.ensures c.append_copies.ensures)
