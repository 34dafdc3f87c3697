-- The answer or the fault of a request is that of the arguments that ask for it.
use Rattle.std.proofs.Common.{inl, refl, rules}
use Rattle.scrub_args.specs.Args.{NameCommand, texts}
use Rattle.scrub_args.specs.declared.args.Request.TheVariants.{Items, Scan, Manifest, Compare, Shard, Shards, Superblocks, Sizes}
use Rattle.std.proofs.lemmas.Result.{err_from_is_err_and}
use Rattle.scrub_cli.proofs.RunAnswers.{answered, own_fault, request_answer}
use Rattle.scrub_args.proofs.ArgsFound.{few_workers}
use Rattle.scrub_cli.proofs.running.answer.Goals as goal

-- the arguments ask for nothing
pub returns-in_err-request : goal.returns-in_err-request
returns-in_err-request g c =
    let p = err_from_is_err_and c.from_residual.result c.from_residual.ensures.1 in
    rw (p.1, p.2) (inl (c.in_err-request.field-0.0, c.in_err-request.ensures, refl))

pub returns-in-Items : goal.returns-in-Items
returns-in-Items g c =
    answered (g.I.Images.known c.args.images.now) (g.I.Images.known_map c.args.images.now) (texts c.args.args.now)
    (Items c.in-Items.args) c.items.result (rw (c.in-Some.is, c.in-Items.is) at c.in_ok-request.ensures) c.items.ensures

pub returns-in-Superblocks : goal.returns-in-Superblocks
returns-in-Superblocks g c =
    answered (g.I.Images.known c.args.images.now) (g.I.Images.known_map c.args.images.now) (texts c.args.args.now)
    (Superblocks c.in-Superblocks.args) c.superblocks.result (rw (c.in-Some.is, c.in-Superblocks.is) at c.in_ok-request.ensures) c.superblocks.ensures

pub returns-in-Sizes : goal.returns-in-Sizes
returns-in-Sizes g c =
    answered (g.I.Images.known c.args.images.now) (g.I.Images.known_map c.args.images.now) (texts c.args.args.now)
    (Sizes c.in-Sizes.args) c.sizes.result (rw (c.in-Some.is, c.in-Sizes.is) at c.in_ok-request.ensures) c.sizes.ensures

pub on_disk-requires : goal.on_disk-requires
on_disk-requires g c =
    let asked : NameCommand (texts c.args.args.now) (Scan c.in-Scan.wanted c.in-Scan.args) = rw (c.in-Some.is, c.in-Scan.is) at c.in_ok-request.ensures in
    (search rules, (search rules, few_workers asked.1.0 c.in-Scan.args.workers asked.1.3.workers))

pub manifest-requires : goal.manifest-requires
manifest-requires g c =
    let asked : NameCommand (texts c.args.args.now) (Manifest c.in-Manifest.args) = rw (c.in-Some.is, c.in-Manifest.is) at c.in_ok-request.ensures in (
      search rules,
      (search rules, (few_workers asked.1.0 c.in-Manifest.args.scan.workers asked.1.2.disk.scan.workers, asked.1.2.disk.resets.rising)),
    )

pub compare-requires : goal.compare-requires
compare-requires g c =
    let asked : NameCommand (texts c.args.args.now) (Compare c.in-Compare.args) = rw (c.in-Some.is, c.in-Compare.is) at c.in_ok-request.ensures in (
      search rules,
      (search rules, (few_workers asked.1.0 c.in-Compare.args.before.scan.workers asked.1.2.before.scan.workers, (asked.1.2.before.resets.rising, asked.1.2.no_runs))),
    )

pub shard-requires : goal.shard-requires
shard-requires g c =
    let asked : NameCommand (texts c.args.args.now) (Shard c.in-Shard.args) = rw (c.in-Some.is, c.in-Shard.is) at c.in_ok-request.ensures in
    (search rules, (search rules, few_workers asked.1.0 c.in-Shard.args.scan.workers asked.1.2.scan.workers))

pub shards-requires : goal.shards-requires
shards-requires g c =
    let asked : NameCommand (texts c.args.args.now) (Shards c.in-Shards.args) = rw (c.in-Some.is, c.in-Shards.is) at c.in_ok-request.ensures in
    (search rules, (search rules, few_workers asked.1.0 c.in-Shards.args.scan.workers asked.1.2.scan.workers))

pub returns-in-Scan : goal.returns-in-Scan
returns-in-Scan g c =
    answered (g.I.Images.known c.args.images.now) (g.I.Images.known_map c.args.images.now) (texts c.args.args.now)
    (Scan c.in-Scan.wanted c.in-Scan.args) c.on_disk.result (rw (c.in-Some.is, c.in-Scan.is) at c.in_ok-request.ensures) c.on_disk.ensures

pub returns-in_ok-manifest-in-Manifest : goal.returns-in_ok-manifest-in-Manifest
returns-in_ok-manifest-in-Manifest g c =
    let asked : NameCommand (texts c.args.args.now) (Manifest c.in-Manifest.args) = rw (c.in-Some.is, c.in-Manifest.is) at c.in_ok-request.ensures in
    request_answer (g.I.Images.known c.args.images.now) (g.I.Images.known_map c.args.images.now) (texts c.args.args.now) (Manifest c.in-Manifest.args)
    c.in_ok-manifest-in-Manifest.field-0.0.text.items c.in_ok-manifest-in-Manifest.field-0.0.outcome asked
    (c.in_ok-manifest-in-Manifest.ensures.0, c.in_ok-manifest-in-Manifest.ensures.1, c.in_ok-manifest-in-Manifest.ensures.2)

pub returns-in_err-manifest-in-Manifest : goal.returns-in_err-manifest-in-Manifest
returns-in_err-manifest-in-Manifest g c =
    let asked : NameCommand (texts c.args.args.now) (Manifest c.in-Manifest.args) = rw (c.in-Some.is, c.in-Manifest.is) at c.in_ok-request.ensures in
    let p = err_from_is_err_and c.from_residual-in_err-manifest-in-Manifest.result c.from_residual-in_err-manifest-in-Manifest.ensures.1 in
    rw (p.1, p.2)
    (own_fault (g.I.Images.known c.args.images.now) (g.I.Images.known_map c.args.images.now) (texts c.args.args.now) (Manifest c.in-Manifest.args)
    c.in_err-manifest-in-Manifest.field-0.0 asked c.in_err-manifest-in-Manifest.ensures)

pub returns-in_ok-compare-in-Compare : goal.returns-in_ok-compare-in-Compare
returns-in_ok-compare-in-Compare g c =
    let asked : NameCommand (texts c.args.args.now) (Compare c.in-Compare.args) = rw (c.in-Some.is, c.in-Compare.is) at c.in_ok-request.ensures in
    request_answer (g.I.Images.known c.args.images.now) (g.I.Images.known_map c.args.images.now) (texts c.args.args.now) (Compare c.in-Compare.args)
    c.in_ok-compare-in-Compare.field-0.0.text.items c.in_ok-compare-in-Compare.field-0.0.outcome asked
    (c.in_ok-compare-in-Compare.ensures.0, c.in_ok-compare-in-Compare.ensures.1, c.in_ok-compare-in-Compare.ensures.2)

pub returns-in_err-compare-in-Compare : goal.returns-in_err-compare-in-Compare
returns-in_err-compare-in-Compare g c =
    let asked : NameCommand (texts c.args.args.now) (Compare c.in-Compare.args) = rw (c.in-Some.is, c.in-Compare.is) at c.in_ok-request.ensures in
    let p = err_from_is_err_and c.from_residual-in_err-compare-in-Compare.result c.from_residual-in_err-compare-in-Compare.ensures.1 in
    rw (p.1, p.2)
    (own_fault (g.I.Images.known c.args.images.now) (g.I.Images.known_map c.args.images.now) (texts c.args.args.now) (Compare c.in-Compare.args)
    c.in_err-compare-in-Compare.field-0.0 asked c.in_err-compare-in-Compare.ensures)

pub returns-in_ok-shard-in-Shard : goal.returns-in_ok-shard-in-Shard
returns-in_ok-shard-in-Shard g c =
    let asked : NameCommand (texts c.args.args.now) (Shard c.in-Shard.args) = rw (c.in-Some.is, c.in-Shard.is) at c.in_ok-request.ensures in
    request_answer (g.I.Images.known c.args.images.now) (g.I.Images.known_map c.args.images.now) (texts c.args.args.now) (Shard c.in-Shard.args)
    c.in_ok-shard-in-Shard.field-0.0.text.items c.in_ok-shard-in-Shard.field-0.0.outcome asked
    (c.in_ok-shard-in-Shard.ensures.0, c.in_ok-shard-in-Shard.ensures.1, c.in_ok-shard-in-Shard.ensures.2)

pub returns-in_err-shard-in-Shard : goal.returns-in_err-shard-in-Shard
returns-in_err-shard-in-Shard g c =
    let asked : NameCommand (texts c.args.args.now) (Shard c.in-Shard.args) = rw (c.in-Some.is, c.in-Shard.is) at c.in_ok-request.ensures in
    let p = err_from_is_err_and c.from_residual-in_err-shard-in-Shard.result c.from_residual-in_err-shard-in-Shard.ensures.1 in
    rw (p.1, p.2)
    (own_fault (g.I.Images.known c.args.images.now) (g.I.Images.known_map c.args.images.now) (texts c.args.args.now) (Shard c.in-Shard.args)
    c.in_err-shard-in-Shard.field-0.0 asked c.in_err-shard-in-Shard.ensures)

pub returns-in_ok-shards-in-Shards : goal.returns-in_ok-shards-in-Shards
returns-in_ok-shards-in-Shards g c =
    let asked : NameCommand (texts c.args.args.now) (Shards c.in-Shards.args) = rw (c.in-Some.is, c.in-Shards.is) at c.in_ok-request.ensures in
    request_answer (g.I.Images.known c.args.images.now) (g.I.Images.known_map c.args.images.now) (texts c.args.args.now) (Shards c.in-Shards.args)
    c.in_ok-shards-in-Shards.field-0.0.text.items c.in_ok-shards-in-Shards.field-0.0.outcome asked
    (c.in_ok-shards-in-Shards.ensures.0, c.in_ok-shards-in-Shards.ensures.1, c.in_ok-shards-in-Shards.ensures.2)

pub returns-in_err-shards-in-Shards : goal.returns-in_err-shards-in-Shards
returns-in_err-shards-in-Shards g c =
    let asked : NameCommand (texts c.args.args.now) (Shards c.in-Shards.args) = rw (c.in-Some.is, c.in-Shards.is) at c.in_ok-request.ensures in
    let p = err_from_is_err_and c.from_residual-in_err-shards-in-Shards.result c.from_residual-in_err-shards-in-Shards.ensures.1 in
    rw (p.1, p.2)
    (own_fault (g.I.Images.known c.args.images.now) (g.I.Images.known_map c.args.images.now) (texts c.args.args.now) (Shards c.in-Shards.args)
    c.in_err-shards-in-Shards.field-0.0 asked c.in_err-shards-in-Shards.ensures)
