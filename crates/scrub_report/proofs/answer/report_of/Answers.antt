-- The lists are those of the drawn scan, and the text is printed from them.
use Rattle.scrub_report.proofs.ListedReport.{as_many, reported}
use Rattle.scrub_report.proofs.answer.report_of.Goals as goal

pub report_text-requires-clause-live : goal.report_text-requires-clause-live
report_text-requires-clause-live g c κs within = as_many c.args.rest c.args.shards c.in_ok-listed.listed c.requires c.in_ok-listed.ensures

pub returns : goal.returns
returns g c = λ image checked found are same shards broken.
    reported image c.args.broken.now checked found c.args.shards c.in_ok-listed.listed are shards broken (rw same at c.in_ok-listed.ensures)
    c.in_ok-text.text.items c.is_clean_listed-is_clean.result c.is_clean_listed-is_clean.ensures c.in_ok-text.ensures
