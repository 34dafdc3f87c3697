-- The run gets the given arguments.
use Rattle.std.proofs.Common.{◌≡◌, inl, inr, is_ok, map, refl, rules}
use Rattle.std.proofs.lemmas.Iterator.{YieldsList-from_map_by, YieldsList-from_slice}
use Rattle.std.proofs.lemmas.Iterator.Consumers.{map_from_collect}
use Rattle.scrub_args.specs.declared.args.ArgsFault.TheVariants.{OutOfMemory as no_memory}
use Rattle.scrub_cli.specs.declared.process.fault.Fault.TheVariants.{OutOfMemory}
use Rattle.std.proofs.KnownBytes.{Keeps-refl}
use Rattle.scrub_cli.proofs.run_args.Goals as goal

pub returns-in-Ok : goal.returns-in-Ok
returns-in-Ok g c =
    let all =
    map_from_collect {v = λ arg. arg.now} c.collect-args.result c.collect-args.ensures.ran
    (YieldsList-from_map_by _ (λ arg. arg.now) (λ text. text.bytes.items) (YieldsList-from_slice c.args.args.now (search rules)) c.map.ensures.closure (λ x r q k. search rules)) in
    let same : map (λ arg. arg.now) c.as_slice.result.now ≡ map (λ arg. arg.bytes.items) c.args.args.now =
    rw c.as_slice.ensures.value (rw c.in-Ok.is at all) in
    rw same at c.run.ensures

pub returns-in-Err : goal.returns-in-Err
returns-in-Err g c = (
  is_ok c.end.result.1,
  inr (
    OutOfMemory,
    inl (no_memory, tt, refl),
    record {
      kept = Keeps-refl (g.O.Write.contents c.args.out.now);
      reported = c.end.ensures;
    },
  ),
)
