-- Steps of the manifest: what the code appends after a locator's status, by the copies that it found, and which locators runs
-- that are read name, by the rows of the runs.
use Rattle.std.specs.Prelude.{ℕ, Bool, false, List, is_some}
use Rattle.std.specs.List.{slice_get}
use Rattle.std.specs.Option.{option_map_or}
use Rattle.scrub_scan.specs.Scanned.{Scanned}
use Rattle.scrub_check.specs.declared.named.Owner.{Owner}
use Rattle.scrub_check.specs.declared.named.Owner.TheVariants.{Run, Shard}
use Rattle.scrub_check.specs.declared.statuses.checked.Checked.{Checked}
use Rattle.scrub_check.specs.ChunkForms.{form_at}
use Rattle.scrub_check.specs.Spares.{spares_by}
use Rattle.scrub_loose.specs.Copies.{CopiesValue, loose_by}
use Rattle.scrub_loose.specs.Loose.{best_among}
use Rattle.scrub_found.specs.declared.runs.RunRow.{RunRow}
use Rattle.scrub_listings.specs.Manifest.{after_status}

-- what follows a locator's status, by the frames among which its copies are
abbrev pub after_status_by : List Scanned → CopiesValue → Checked → List ℕ
after_status_by all v c = after_status (form_at all c.locator) (best_among (spares_by v.spares c) (loose_by v c)) c

-- a row of a run that is read, of this number, names the locator
abbrev pub is_of_read_row : List RunRow → Owner → Bool
is_of_read_row rows (Run number) = option_map_or (λ r. is_some r.entries) (slice_get rows number) false
is_of_read_row rows (Shard id) = false
