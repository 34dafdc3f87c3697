-- Each way out of `compare`, in the order of the code.
use Rattle.std.proofs.Common.{arith, inl, inr, refl, sym, ◌∙◌}
use Rattle.std.proofs.lemmas.Result.{err_from_is_err_and}
use Rattle.scrub_disk.specs.Parted.{image_of}
use Rattle.scrub_cli.proofs.CompareAnswers.{loaded_sizes}
use Rattle.scrub_cli.proofs.NamedPages.{named_in_range}
use Rattle.scrub_cli.proofs.commands.compare.compare.Goals as goal

-- the earlier image isn't loaded
pub returns-in_err-geometry : goal.returns-in_err-geometry
returns-in_err-geometry g c =
    let p = err_from_is_err_and c.from_residual.result c.from_residual.ensures.1 in
    rw (p.1, p.2) (inl c.in_err-geometry.ensures.disk)

-- there is no later one
pub returns-in_default : goal.returns-in_default
returns-in_default g c =
    let earlier = c.in_ok-geometry.ensures.disk in
    inr (
      c.in_ok-geometry.geometry,
      image_of c.in_ok-geometry.before,
      earlier.0,
      inl (refl, rw c.load_earlier.ensures.same_images at c.in_default.ensures.unopened),
    )

pub load_raw-requires-clause-pages : goal.load_raw-requires-clause-pages
load_raw-requires-clause-pages g c =
    let earlier = c.in_ok-geometry.ensures.disk in
    λ κs h. rw earlier.1 (named_in_range c.in_ok-geometry.geometry c.args.args.now.before.scan.image.bad_pages.items earlier.0.pages earlier.0.losses.named)

-- the later one isn't loaded
pub returns-in_err-after : goal.returns-in_err-after
returns-in_err-after g c =
    let earlier = c.in_ok-geometry.ensures.disk in
    let p = err_from_is_err_and c.from_residual-in_err-after.result c.from_residual-in_err-after.ensures.1 in
    rw (p.1, p.2)
    (inr (
      c.in_ok-geometry.geometry,
      image_of c.in_ok-geometry.before,
      earlier.0,
      inr (c.in_err-after.ensures.disk (g.I.Images.known c.args.images.now c.args.args.now.after.now) (record {
        same_bytes = rw c.load_earlier.ensures.same_images at c.in-Some.ensures.known;
        same_fails = rw c.load_earlier.ensures.same_images at c.in-Some.ensures.faults;
        same_bound = rw c.load_earlier.ensures.same_images at c.in-Some.ensures.bounded;
        few_reads = omega (arith, c.in-Some.ensures.unread);
      })),
    ))

-- both have these sizes
pub comparison-requires-clause-sizes : goal.comparison-requires-clause-sizes
comparison-requires-clause-sizes g c κs within =
    let earlier = c.in_ok-geometry.ensures.disk in
    let later = c.in_ok-after.ensures.disk (g.I.Images.known c.args.images.now c.args.args.now.after.now) (record {
      same_bytes = rw c.load_earlier.ensures.same_images at c.in-Some.ensures.known;
      same_fails = rw c.load_earlier.ensures.same_images at c.in-Some.ensures.faults;
      same_bound = rw c.load_earlier.ensures.same_images at c.in-Some.ensures.bounded;
      few_reads = omega (arith, c.in-Some.ensures.unread);
    }) earlier.0.blocks earlier.2 in
    loaded_sizes later ∙ sym (loaded_sizes earlier.0.loaded)

-- both are compared
pub returns : goal.returns
returns g c =
    let earlier = c.in_ok-geometry.ensures.disk in
    let later = c.in_ok-after.ensures.disk (g.I.Images.known c.args.images.now c.args.args.now.after.now) (record {
      same_bytes = rw c.load_earlier.ensures.same_images at c.in-Some.ensures.known;
      same_fails = rw c.load_earlier.ensures.same_images at c.in-Some.ensures.faults;
      same_bound = rw c.load_earlier.ensures.same_images at c.in-Some.ensures.bounded;
      few_reads = omega (arith, c.in-Some.ensures.unread);
    }) earlier.0.blocks earlier.2 in (
      image_of c.in_ok-geometry.before,
      image_of c.in_ok-after.after,
      record {
        images = record { geometry = c.in_ok-geometry.geometry; earlier = earlier.0; later = rw earlier.1 at later };
        compared = rw c.deref.ensures.value at c.in_ok-comparison.ensures.answer;
      },
      c.in_ok-comparison.ensures.takings,
      c.in_ok-comparison.ensures.takings_after,
    )
