-- What is left: the shards after this one, and their locators.
use Rattle.std.proofs.Common.{◌≡◌, ◌++◌, drop}
use Rattle.std.specs.Prelude.{string_bytes}
use Rattle.scrub_listings.specs.steps.Manifest.{after_status_by}
use Rattle.scrub_listings.proofs.ShardLines.{AreAlong, lines_along}
use Rattle.scrub_listings.proofs.manifest.append_shards.Given as goal

abbrev pub invariant-loop-binding : goal.invariant-loop-binding
invariant-loop-binding g l = record {
  along : AreAlong (drop l.binding-index l.bindings) l.rest;
  lines :
      string_bytes l.text ++ lines_along (after_status_by l.all.extents l.copies) (drop l.binding-index l.bindings) l.rest
      ≡ string_bytes l.fn.text ++ lines_along (after_status_by l.all.extents l.copies) l.bindings l.checked;
}
