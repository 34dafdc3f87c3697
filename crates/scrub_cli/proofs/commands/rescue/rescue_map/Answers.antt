-- The map that is kept is that of the text that was read.
use Rattle.std.proofs.Common.{Some, List, ℕ, subst}
use Rattle.scrub_map.specs.Map.{IsMap}
use Rattle.scrub_cli.proofs.commands.rescue.rescue_map.Goals as goal

pub returns-clause-map : goal.returns-clause-map
returns-clause-map g c =
    let read = c.in_ok-read_map.ensures.map in
    record {
      blocks = Some read.0;
      are = rw c.in-Some.is (record {
        text = c.in-Ok.text.items;
        known = c.in-Ok.ensures.known;
        read = subst (λ (text : List ℕ). IsMap text read.0) c.deref.ensures.value read.1;
      });
      keeps = read.2;
    }
