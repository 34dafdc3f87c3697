-- Each line is of a run that is found, and so is at its place.
use Rattle.std.proofs.Common.{get_or}
use Rattle.std.proofs.lemmas.List.Elements.{Contains-get_or}
use Rattle.list_facts.proofs.Elements.{Contains-map}
use Rattle.scrub_loose.specs.Listed.{ListedValue}
use Rattle.scrub_loose.proofs.RunsThere.{found_there, one_there}
use Rattle.scrub_listings.proofs.found_runs.a_listed_run_can_be_given.Goals as goal

pub returns-clause-there : goal.returns-clause-there
returns-clause-there c = λ image text clean l k d low.
    let v : ListedValue = get_or l.listed k d in
    found_there image v.run
    ((l.are.found.each v.run).0
    (Contains-map (λ (w : ListedValue). w.run) l.listed v (Contains-get_or l.listed k d low)))

pub returns-clause-one : goal.returns-clause-one
returns-clause-one c = one_there
