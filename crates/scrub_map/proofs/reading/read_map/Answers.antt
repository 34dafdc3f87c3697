use Rattle.scrub_map.proofs.FieldCuts.{empty_is}
use Rattle.scrub_map.proofs.MapLines.{no_map, up_to_more, whole_map}
use Rattle.scrub_map.proofs.reading.read_map.Goals as goal

pub loop-rest-preserved : goal.loop-rest-preserved
loop-rest-preserved c = record {
  read =
      up_to_more _ _ _ _ _ _ _ c.next_line.ensures.lines c.next_line.ensures.shorter c.loop-rest.invariant.read
      c.in_ok-add_line.ensures.read;
  ready = c.in_ok-add_line.ensures.ready;
}

pub returns-clause-map : goal.returns-clause-map
returns-clause-map c =
    whole_map _ _ _ _ _ (empty_is _ _ c.is_empty.ensures c.loop-rest-test.false) c.loop-rest.invariant.read
    c.finish.ensures.read

pub returns-clause-line : goal.returns-clause-line
returns-clause-line c =
    no_map _ _ _ _ _ (empty_is _ _ c.is_empty.ensures c.loop-rest-test.false) c.loop-rest.invariant.read
    c.finish.ensures.bad
