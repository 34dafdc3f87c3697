-- Each command on an image has all that it needs, and a fault of the sizes is one of its command.
use Rattle.std.proofs.Common.{◌∙◌, codes}
use Rattle.std.proofs.lemmas.Result.{err_from_is_err_and}
use Rattle.clap.specs.Words.{found_of, rows_of, subcommand_rows_of}
use Rattle.clap.proofs.OnLiterals.{clap_on_literals}
use Rattle.scrub_args.proofs.ArgsFound.{disk_of_whole, found_command, last_of_whole, manifest_fault_of_rows, met_whole, part_fault_of_rows, twice}
use Rattle.scrub_args.proofs.args.request_of.Goals as goal

pub items_args-requires : goal.items_args-requires
unfolding clap_on_literals
items_args-requires c =
    let met = c.in-Some-items-default in
    met_whole (subcommand_rows_of c.args.matches.now) met.field-0-0.now (rows_of (found_of met.matches.now)) c.requires
    (met.ensures.name ∙ twice (λ p. p.0) _ _)
    met.ensures.rows (codes "items") met.is-items

pub manifest_args-requires : goal.manifest_args-requires
unfolding clap_on_literals
manifest_args-requires c =
    let met = c.in-Some-manifest-default in
    met_whole (subcommand_rows_of c.args.matches.now) met.field-0-0.now (rows_of (found_of met.matches.now)) c.requires
    (met.ensures.name ∙ twice (λ p. p.0) _ _)
    met.ensures.rows (codes "manifest") met.is-manifest

pub compare_args-requires : goal.compare_args-requires
unfolding clap_on_literals
compare_args-requires c =
    let met = c.in-Some-compare-default in
    met_whole (subcommand_rows_of c.args.matches.now) met.field-0-0.now (rows_of (found_of met.matches.now)) c.requires
    (met.ensures.name ∙ twice (λ p. p.0) _ _)
    met.ensures.rows (codes "compare") met.is-compare

pub shard_args-requires : goal.shard_args-requires
unfolding clap_on_literals
shard_args-requires c =
    let met = c.in-Some-shard-default in
    met_whole (subcommand_rows_of c.args.matches.now) met.field-0-0.now (rows_of (found_of met.matches.now)) c.requires
    (met.ensures.name ∙ twice (λ p. p.0) _ _)
    met.ensures.rows (codes "shard") met.is-shard

pub shards_args-requires : goal.shards_args-requires
unfolding clap_on_literals
shards_args-requires c =
    let met = c.in-Some-shards-default in
    met_whole (subcommand_rows_of c.args.matches.now) met.field-0-0.now (rows_of (found_of met.matches.now)) c.requires
    (met.ensures.name ∙ twice (λ p. p.0) _ _)
    met.ensures.rows (codes "shards") met.is-shards

pub image_args-requires : goal.image_args-requires
unfolding clap_on_literals
image_args-requires c =
    let met = c.in-Some-superblocks-default in
    met_whole (subcommand_rows_of c.args.matches.now) met.field-0-0.now (rows_of (found_of met.matches.now)) c.requires
    (met.ensures.name ∙ twice (λ p. p.0) _ _)
    met.ensures.rows (codes "superblocks") met.is-superblocks

pub sizes_args-requires : goal.sizes_args-requires
unfolding clap_on_literals
sizes_args-requires c =
    let met = c.in-Some-sizes-default in
    met_whole (subcommand_rows_of c.args.matches.now) met.field-0-0.now (rows_of (found_of met.matches.now)) c.requires
    (met.ensures.name ∙ twice (λ p. p.0) _ _)
    met.ensures.rows (codes "sizes") met.is-sizes

pub returns-in_err-manifest_args-in-Some-manifest-default : goal.returns-in_err-manifest_args-in-Some-manifest-default
returns-in_err-manifest_args-in-Some-manifest-default c =
    let met = c.in-Some-manifest-default in
    let found = rows_of (found_of met.matches.now) in
    let command = subcommand_rows_of c.args.matches.now in
    let fault = c.in_err-manifest_args-in-Some-manifest-default in
    let converted = c.from_residual-in_err-manifest_args-in-Some-manifest-default in
    let p = err_from_is_err_and converted.result converted.ensures.1 in
    let name = found_command command met.field-0-0.now found (met.ensures.name ∙ twice (λ p. p.0) _ _) met.ensures.rows in
    rw (p.1, p.2)
    (manifest_fault_of_rows found command fault.field-0.0 (rw met.is-manifest at name) fault.ensures)

pub returns-in_err-image_args-in-Some-superblocks-default : goal.returns-in_err-image_args-in-Some-superblocks-default
returns-in_err-image_args-in-Some-superblocks-default c =
    let met = c.in-Some-superblocks-default in
    let name = met.field-0-0.now in
    let found = rows_of (found_of met.matches.now) in
    let command = subcommand_rows_of c.args.matches.now in
    let fault = c.in_err-image_args-in-Some-superblocks-default in
    let converted = c.from_residual-in_err-image_args-in-Some-superblocks-default in
    let p = err_from_is_err_and converted.result converted.ensures.1 in
    rw (p.1, p.2)
    (part_fault_of_rows name found command fault.field-0.0
    (found_command command name found (met.ensures.name ∙ twice (λ p. p.0) _ _) met.ensures.rows) fault.ensures)

pub wanted_by-requires-clause-last : goal.wanted_by-requires-clause-last
wanted_by-requires-clause-last c dated =
    let met = c.in-Some in
    last_of_whole (subcommand_rows_of c.args.matches.now) met.name.now (rows_of (found_of met.matches.now)) c.requires
    (met.ensures.name ∙ twice (λ p. p.0) _ _)
    met.ensures.rows dated

pub scan_args-requires : goal.scan_args-requires
scan_args-requires c =
    let met = c.in-Some in
    disk_of_whole (subcommand_rows_of c.args.matches.now) met.name.now (rows_of (found_of met.matches.now)) c.requires
    (met.ensures.name ∙ twice (λ p. p.0) _ _)
    met.ensures.rows c.in_ok-wanted-in-Some.wanted c.in_ok-wanted-in-Some.ensures.0

pub returns-in_err-scan_args-in-Some : goal.returns-in_err-scan_args-in-Some
returns-in_err-scan_args-in-Some c =
    let met = c.in-Some in
    let name = met.name.now in
    let found = rows_of (found_of met.matches.now) in
    let command = subcommand_rows_of c.args.matches.now in
    let fault = c.in_err-scan_args-in-Some in
    let converted = c.from_residual-in_err-scan_args-in-Some in
    let p = err_from_is_err_and converted.result converted.ensures.1 in
    rw (p.1, p.2)
    (part_fault_of_rows name found command fault.field-0.0
    (found_command command name found (met.ensures.name ∙ twice (λ p. p.0) _ _) met.ensures.rows) fault.ensures)
