-- The map wasn't read, there is no image of this name, or both are opened.
use Rattle.std.proofs.Common.{◌∙◌, ap, arith, inl, inr, refl, List, ℕ}
use Rattle.std.proofs.lemmas.Result.{err_from_is_err_and}
use Rattle.scrub_cli.specs.KnownFiles.{KnownRaw}
use Rattle.scrub_cli.proofs.commands.opened.open.Goals as goal

pub returns-in_err-map-clause-map : goal.returns-in_err-map-clause-map
returns-in_err-map-clause-map g c =
    let p = err_from_is_err_and c.from_residual.result c.from_residual.ensures.1 in
    rw (p.1, p.2) (inl c.in_err-map.ensures.map)

pub returns-in_default-clause-map : goal.returns-in_default-clause-map
returns-in_default-clause-map g c =
    inr (c.in_ok-map.ensures.map.blocks, c.in_ok-map.ensures.map.are, (refl, rw c.rescue_map.ensures.same_images at c.in_default.ensures.unopened))

pub returns-clause-raw : goal.returns-clause-raw
returns-clause-raw g c =
    let same = ap (λ (k : List ℕ → KnownRaw). k c.args.name.now) c.rescue_map.ensures.same_images in
    record {
      same_bytes = c.in-Some.ensures.known ∙ ap (λ k. k.bytes) same;
      same_fails = c.in-Some.ensures.faults ∙ ap (λ k. k.fails) same;
      same_bound = c.in-Some.ensures.bounded ∙ ap (λ k. k.most_failures) same;
      few_reads = omega (arith, c.in-Some.ensures.unread);
    }
