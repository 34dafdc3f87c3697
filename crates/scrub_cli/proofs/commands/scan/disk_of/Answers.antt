-- No sizes were found, no disk was loaded, or the disk that was loaded has these sizes.
use Rattle.std.proofs.Common.{inl, inr}
use Rattle.std.proofs.lemmas.Result.{MatchResult-weaker, err_from_is_err_and}
use Rattle.scrub_cli.proofs.commands.scan.disk_of.Goals as goal

pub returns-in_err-geometry : goal.returns-in_err-geometry
returns-in_err-geometry g c =
    let p = err_from_is_err_and c.from_residual.result c.from_residual.ensures.1 in
    rw (p.1, p.2) (inr (inl c.in_err-geometry.ensures.geometry))

pub returns : goal.returns
returns g c =
    MatchResult-weaker c.load_disk.result
    (rw (c.geometry_of.ensures.same_images, c.geometry_of.ensures.same_maps) at c.load_disk.ensures)
    (λ disk loaded. record { geometry = c.in_ok-geometry.geometry; sizes = c.in_ok-geometry.ensures.geometry; loaded = loaded })
    (λ fault why. inr (inr (c.in_ok-geometry.geometry, c.in_ok-geometry.ensures.geometry, why)))
