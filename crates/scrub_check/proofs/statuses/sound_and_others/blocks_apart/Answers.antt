-- Each chunk of the bindings is apart, and the chunks side by side are all of them.
use Rattle.std.proofs.Common.{◌∙◌, ap, arith, subst, IfOk}
use Rattle.std.specs.Prelude.{max}
use Rattle.std.specs.List.{AllZip, flat_map}
use Rattle.rayon.proofs.ToStd.{slice-AllZip}
use Rattle.rayon.specs.Lists.{chunks_of, chunks_size, chunks_slice}
use Rattle.list_facts.proofs.Zips.{AllZip-collected}
use Rattle.std.proofs.lemmas.Result.{IfOk-weaker}
use Rattle.scrub_check.specs.Named.{named_by_shard}
use Rattle.scrub_check.specs.steps.SoundAndOthers.{IsApart}
use Rattle.scrub_check.proofs.SoundAndOthers.{blocks_joined}
use Rattle.scrub_check.proofs.statuses.sound_and_others.blocks_apart.Goals as goal

pub returns : goal.returns
returns g c =
    let image = g.D.PageSource.image c.args.scan.now.disk.now in
    let plan = c.args.scan.now.plan.now in
    let bindings = c.args.bindings.now in
    let h = c.in_ok-collect.ensures in
    let chain = h.1 in
    let chunks = chunks_of 8192 bindings in
    let shown = chain.1 ∙ (λ i. chunks_of (max (chunks_size (c.map.ensures.base i)) 1) (chunks_slice (c.map.ensures.base i)))
    ∙ (λ i. chunks_of (max (c.par_chunks.ensures.size i) 1) (c.par_chunks.ensures.slice i)) in
    let known =
    subst (λ f. AllZip (λ z r. IfOk r (λ a. IsApart (g.D.PageSource.image f.1.now.disk.now) f.1.now.plan.now (flat_map named_by_shard z.now) a)) chain.0 h.0)
    c.map.ensures.f chain.2 in
    let each =
    AllZip-collected (λ v. v.items) (λ block a. IsApart image plan (flat_map named_by_shard block) a) chunks h.0 c.in_ok-collect.field-0
    (slice-AllZip chain.0 chunks shown (λ block r. IfOk r (λ a. IsApart image plan (flat_map named_by_shard block) a)) h.0 known) h.2 in
    blocks_joined image plan bindings 8192 (omega arith) c.in_ok-collect.field-0 each
