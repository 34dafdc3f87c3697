-- The front without the blocks that the map lacks, or as it was read.
use Rattle.std.proofs.Common.{◌-◌, ◌≤◌, ◌∙◌, arith, ap, false, length}
use Rattle.std.specs.Int.{div_ceil}
use Rattle.scrub_cli.proofs.Rescues.{front_as_known, front_by_map, lacking_none}
use Rattle.scrub_cli.proofs.commands.rescue.front_of.Goals as goal

pub without-requires : goal.without-requires
without-requires g c =
    ap length c.deref.ensures.value ∙ c.in_ok-lost-in-Some.ensures.one_each ∙ ap (λ n. div_ceil n 512) c.size.ensures

pub returns-in_ok-lost-in-Some-clause-front : goal.returns-in_ok-lost-in-Some-clause-front
returns-in_ok-lost-in-Some-clause-front g c =
    let bytes = g.R.RawImage.bytes c.args.raw.now in
    let fails = g.R.RawImage.fails c.args.raw.now in
    let failures = g.R.RawImage.failures c.read.new.raw - g.R.RawImage.failures c.args.raw.now in
    let bound = g.met.R.RawImage.failures_are_bounded c.read.new.raw in
    let kept = c.read.ensures.same_bound in
    let few : failures ≤ g.R.RawImage.most_failures c.args.raw.now = omega (arith, bound, kept) in
    rw c.in-Some.is (λ known is blocks keeps.
    front_by_map known bytes fails (g.R.RawImage.most_failures c.args.raw.now) failures c.in-Some.map blocks c.size.result
    c.deref.result.now c.without.result is.same_bytes is.same_fails is.same_bound few keeps
    (λ all keeps_all. rw c.deref.ensures.value (c.in_ok-lost-in-Some.ensures.lost all keeps_all))
    (λ lacking lacks. c.without.ensures bytes fails failures c.in_ok-front.ensures.front lacking (rw c.size.ensures at lacks)))

pub returns-in-None-clause-front : goal.returns-in-None-clause-front
returns-in-None-clause-front g c =
    let bytes = g.R.RawImage.bytes c.args.raw.now in
    let fails = g.R.RawImage.fails c.args.raw.now in
    let failures = g.R.RawImage.failures c.read.new.raw - g.R.RawImage.failures c.args.raw.now in
    let bound = g.met.R.RawImage.failures_are_bounded c.read.new.raw in
    let kept = c.read.ensures.same_bound in
    let few : failures ≤ g.R.RawImage.most_failures c.args.raw.now = omega (arith, bound, kept) in
    rw c.in-None.is (λ known is blocks keeps.
    front_as_known known bytes fails (g.R.RawImage.most_failures c.args.raw.now) failures blocks (λ _. false) c.in_ok-front.front
    is.same_bytes is.same_fails is.same_bound few (lacking_none blocks keeps) c.in_ok-front.ensures.front)
