-- The form of the chunk at a place.
use Rattle.std.specs.Prelude.{◌==◌, ℕ, List, Option, Some, None}
use Rattle.std.specs.List.{find}
use Rattle.std.specs.Option.{option_and_then}
use Rattle.scrub_frame.specs.declared.form.Form.{Form}
use Rattle.scrub_frame.specs.declared.locator.Locator.{Locator}
use Rattle.scrub_scan.specs.declared.item.Item.{Item}
use Rattle.scrub_scan.specs.declared.item.Item.TheVariants.{Chunk}
use Rattle.scrub_scan.specs.AllFindings.{entry_of}
use Rattle.scrub_scan.specs.Item.{start_of}
use Rattle.scrub_scan.specs.Scanned.{Scanned}

-- the item that begins at place p of extent e, or None if the extent wasn't scanned or no item begins there
abbrev pub item_at : List Scanned → ℕ → ℕ → Option Item
item_at all e p = option_and_then (λ f. find (λ item. start_of item == p) f.findings.items) (entry_of all e)

-- the form of an item, or None if it isn't a chunk
abbrev pub form_of : Item → Option Form
form_of (Chunk form start stop uuid length digest) = Some form
form_of _ = None

-- the form of the chunk at a locator's place, or None if no chunk begins there
abbrev pub form_at : List Scanned → Locator → Option Form
form_at all l = option_and_then form_of (item_at all l.extent l.offset)
