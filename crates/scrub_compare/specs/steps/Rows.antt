-- The locators of shards, by the order of the identifiers of these.
use Rattle.std.specs.Prelude.{◌≡◌, ◌++◌, ℕ, AllPairs, Contains, List, Option, None, Some, map, if◌then◌else◌}
use Rattle.std.specs.Ordering.{is_lt, is_le}
use Rattle.std.specs.List.Sorted.{IsPartitionedBy}
use Rattle.std.specs.declared.cmp.Ordering.{Ordering}
use Rattle.std.specs.declared.cmp.Ordering.TheVariants.{Less}
use Rattle.scrub_run.specs.declared.shard_id.ShardId.{ShardId}
use Rattle.scrub_frame.specs.declared.locator.Locator.{Locator}
use Rattle.scrub_run.specs.Entry.{IsBelow}
use Rattle.scrub_merge.specs.Binding.{BindingValue}
use Rattle.scrub_merge.specs.steps.Cursors.{id_cmp}
use Rattle.scrub_check.specs.declared.named.Owner.{Owner}
use Rattle.scrub_check.specs.declared.named.Owner.TheVariants.{Run, Shard}
use Rattle.scrub_check.specs.declared.statuses.checked.Checked.{Checked}
use Rattle.scrub_check.specs.Checked.{is_dangling, named_of}
use Rattle.scrub_check.specs.Named.{named_locators}
use Rattle.scrub_check.specs.Spares.{spares_by}
use Rattle.scrub_loose.specs.declared.copies.BestCopy.{BestCopy}
use Rattle.scrub_loose.specs.Copies.{CopiesValue, loose_by}
use Rattle.scrub_loose.specs.Loose.{best_among, best_of}
use Rattle.scrub_listings.specs.Manifest.{numbered_text}
use Rattle.scrub_scan.specs.declared.standing.Standing.{Standing}
use Rattle.scrub_scan.specs.Scanned.{Scanned}
use Rattle.scrub_compare.specs.Compare.{RowValue, place_or_form, row_by}

-- how an owner stands to an identifier: a run is below each
abbrev pub owner_cmp : Owner → ShardId → Ordering
owner_cmp (Run number) id = Less
owner_cmp (Shard other) id = id_cmp other id

-- of each identifier, the locators whose owners are below it come first, then those of its shard, and then the others
abbrev pub AreByOwner : List Checked → Type 0
AreByOwner checked = (id : ShardId) →
    IsPartitionedBy (λ c. is_lt (owner_cmp c.owner id)) checked × IsPartitionedBy (λ c. is_le (owner_cmp c.owner id)) checked

-- the named locators are those of the runs, and then those of the shards of these bindings, which rise by identifier
pub record AreNamedBy (runs : List Locator) (checked : List Checked) (bindings : List BindingValue) : Type 0 where
  pub same : map named_of checked ≡ named_locators runs bindings
  pub rising : AllPairs (λ b c. IsBelow b.id c.id) bindings

-- the line of a shard's locator of this number up to its last word, by what was scanned
abbrev pub stem_text : List Scanned → ℕ → Checked → List ℕ
stem_text all number c = numbered_text number c ++ place_or_form all c

-- the best copy of a locator among those that the code keeps
abbrev pub best_by : CopiesValue → Checked → BestCopy
best_by v c = best_among (spares_by v.spares c) (loose_by v c)

-- the best copy of a locator, if it dangles
abbrev pub best_by_if_dangling : CopiesValue → Checked → Option BestCopy
best_by_if_dangling v c = if is_dangling c.status then Some (best_by v c) else None

-- the line of a shard's locator of this number, by what was scanned and the copies among which its own are
abbrev pub row_among : List Scanned → CopiesValue → ℕ → Checked → RowValue
row_among all v = row_by (best_by v) all

-- the best copy of each of these named locators is that by what was scanned and these loose frames
abbrev pub AreBestBy : List Scanned → List Checked → List Standing → CopiesValue → Type 0
AreBestBy all checked loose v = (c : Checked) → Contains checked c → best_by v c ≡ best_of all loose c
