-- The item that begins there, or none.
use Rattle.std.proofs.Common.{◌∙◌, ap, sym, map}
use Rattle.std.specs.List.{Contains}
use Rattle.std.specs.Option.{option_and_then}
use Rattle.list_facts.proofs.Options.{IfNone-at, IfSome-at}
use Rattle.scrub_scan.specs.Item.{start_of}
use Rattle.scrub_check.specs.ChunkForms.{form_of}
use Rattle.scrub_check.proofs.ChunkForms.{item_found, no_item}
use Rattle.scrub_check.proofs.StatusByFrame.{StartsAt}
use Rattle.scrub_check.proofs.statuses.chunk_form.form_from.Goals as goal

pub returns-in-Some : goal.returns-in-Some
returns-in-Some c =
    let items = c.args.items.now in
    let at : StartsAt items c.args.start c.in-Some.i =
    IfSome-at (StartsAt items c.args.start) c.find_start.result.at c.in-Some.i c.in-Some.is c.find_start.ensures.found in
    c.form_of.ensures
    ∙ sym (ap (option_and_then form_of) (item_found items c.args.start c.in-Some.i c.index-items-i.result c.requires at.0 at.1 c.index-items-i.is))

pub returns-in-None : goal.returns-in-None
returns-in-None c =
    no_item c.args.items.now c.args.start
    (IfNone-at (¬ Contains (map start_of c.args.items.now) c.args.start) c.find_start.result.at c.in-None.is c.find_start.ensures.none)
