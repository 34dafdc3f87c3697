-- What is known of a scanned extent: its number, its pointer and its findings.
use Rattle.std.specs.Prelude.{ℕ}
use Rattle.scrub_disk.specs.Image.{Image}
use Rattle.scrub_scan.specs.declared.findings.Findings.{Findings}
use Rattle.scrub_scan.specs.declared.extent_result.ExtentResult.{ExtentResult}

-- findings, and the extent and the write pointer that they are of
pub record Scanned : Type 0 where
  pub extent : ℕ
  pub pointer : ℕ
  pub findings : Findings

module _ {D : Type 0} {s : _} where
  -- the image that was scanned
  abbrev pub result_image : ExtentResult D s → Image
  result_image r = s.image r.source.now

  -- the findings of a result, with their extent and pointer
  abbrev pub scanned : ExtentResult D s → Scanned
  scanned r = record { extent = r.extent; pointer = r.pointer; findings = r.findings }

  -- how often the scan asked for a page, as counted
  abbrev pub calls : ExtentResult D s → ℕ
  calls r = r.asked
