-- There are as many values as orphans.
use Rattle.std.proofs.Common.{map}
use Rattle.std.proofs.lemmas.List.{length-map}
use Rattle.scrub_report.specs.Report.{place_data}
use Rattle.scrub_report.proofs.PieceTexts.{pieces_made}
use Rattle.scrub_report.proofs.orphans.orphans_texts.Goals as goal

pub returns : goal.returns
returns g c =
    pieces_made (map place_data c.args.orphans.now) 32768 (length-map c.args.orphans.now place_data)
    c.nth_texts.result c.nth_texts.ensures.count c.nth_texts.ensures.each
