-- Steps of the code: what the report lists, and what it is drawn from.
use Rattle.std.specs.Prelude.{◌≡◌, ◌&&◌, ◌==◌, ℕ, Bool, List, filter, length, map}
use Rattle.scrub_disk.specs.Image.{Image}
use Rattle.scrub_run.specs.declared.shard_id.ShardId.{ShardId}
use Rattle.scrub_merge.specs.Binding.{BindingValue}
use Rattle.scrub_check.specs.declared.statuses.checked.Checked.{Checked}
use Rattle.scrub_check.specs.Chunks.{twins}
use Rattle.scrub_check.specs.steps.LocatorIndex.{IsLocatorIndex}
use Rattle.scrub_report.specs.declared.listed.Listed.{Listed}
use Rattle.scrub_report.specs.declared.listed.JudgedWithoutMap.{JudgedWithoutMap}
use Rattle.scrub_found.specs.declared.judging.DrawnScan.{DrawnScan}
use Rattle.scrub_report.specs.declared.shards.Shards.{Shards}
use Rattle.scrub_found.specs.Judged.{IsLivenessBy, is_clean_by}
use Rattle.scrub_report.specs.Report.{report_text}
use Rattle.scrub_found.specs.Scrubbed.{IsScrubbed, Scrubbed, is_clean_disk}

-- the identifiers of the doubtful bindings, in their order
abbrev pub doubtful_ids : List BindingValue → List ShardId
doubtful_ids bindings = map (λ b. b.id) (filter (λ b. b.doubtful) bindings)

-- how many shards a map has, and the doubtful ones
pub record AreShardsOf (bindings : List BindingValue) (s : Shards) : Type 0 where
  pub count_is : s.count ≡ length bindings
  pub doubtful_are : s.doubtful.items ≡ doubtful_ids bindings

module _ {D : Type 0} where
  -- a drawn scan without its shard map and its broken shards
  abbrev pub unlisted : DrawnScan D → JudgedWithoutMap D
  unlisted d = record {
    scan = d.scan;
    in_doubt = d.in_doubt;
    runs = d.runs;
    locators = d.drawn.locators;
    dangling = d.drawn.dangling;
    hidden = d.drawn.hidden;
  }

  -- the locators say what some checked ones do
  abbrev pub AreOfSome : JudgedWithoutMap D → Type 0
  AreOfSome d = (checked : List Checked) × IsLocatorIndex checked d.locators

  -- the lists are those that were drawn, what follows from which chunks are live is that of the locators, and what is said of the shard
  -- map is kept
  pub record AreListsOf (d : JudgedWithoutMap D) (s : Shards) (l : Listed D) : Type 0 where
    pub scan_is : l.scan ≡ d.scan
    pub runs_are : l.runs.items ≡ d.runs.items
    pub shards_are : l.shards ≡ s
    pub dangling_are : l.dangling.items ≡ d.dangling.items
    pub hidden_are : l.hidden.items ≡ d.hidden.items
    pub liveness_is : (checked : List Checked) → IsLocatorIndex checked d.locators →
        IsLivenessBy d.scan.plan d.scan.all.extents checked d.in_doubt l.liveness
    pub twins_are : l.twins.items ≡ twins d.scan.all.extents

  -- whether the lists are clean
  abbrev pub is_clean_listed : Listed D → Bool
  is_clean_listed l =
      is_clean_by l.scan l.runs.items (length l.dangling.items == 0 && length l.hidden.items == 0) l.liveness.shared.items

-- the text and the verdict are those of what is found in an image, with these bindings and these checked locators
pub record IsReportBy (image : Image) (bindings : List BindingValue) (checked : List Checked) (text : List ℕ) (clean : Bool) : Type 0 where
  pub found : Scrubbed
  pub scrubbed : IsScrubbed image found
  pub bindings_are : found.bindings ≡ bindings
  pub checked_are : found.checked ≡ checked
  pub text_is : text ≡ report_text found
  pub verdict : clean ≡ is_clean_disk found
