use Rattle.std.proofs.Common.{◌≡◌, ◌++◌, ◌∙◌, List, [], length, arith, ap, sym, subst, append-nil}
use Rattle.std.specs.List.{AllZip, flat_map}
use Rattle.std.proofs.lemmas.List.{length-append, take_all}
use Rattle.scrub_check.specs.declared.named.Named.{Named}
use Rattle.scrub_check.specs.declared.statuses.checked.Checked.{Checked}
use Rattle.scrub_check.specs.Checked.{IsChecked}
use Rattle.scrub_check.specs.Named.{named_by_runs, named_by_shard, named_locators}
use Rattle.scrub_check.specs.steps.Open.{IsKnownBefore}
use Rattle.scrub_check.proofs.CheckedLists.{each_checked}
use Rattle.scrub_check.proofs.Rebuilt.{at_binding, first_more, named_first, named_later}
use Rattle.scrub_check.proofs.statuses.checked.check_again.Goals as goal

pub loop-binding-init : goal.loop-binding-init
loop-binding-init c =
    let runs = c.args.runs.now in
    let bindings = c.args.bindings.now in
    let first = named_by_runs 0 runs in
    let named : c.deref.result.now ≡ first = c.deref.ensures.value ∙ c.in_ok-named.ensures in
    let whole : first ++ [] ≡ first = append-nil first in
    record {
      count =
          let none : length c.in_ok-checked.checked.items ≡ 0 = ap length c.in_ok-checked.ensures.items in
          let many : length c.deref.result.now ≡ length first = ap (λ (ns : List Named). length ns) named in
          let same : length (named_first runs bindings 0) ≡ length first = ap (λ (ns : List Named). length ns) whole in
          omega (arith, c.in_ok-append_checked.ensures.count, none, many, same);
      each = λ image plan known.
          let nothing : AllZip (IsChecked image plan) [] c.in_ok-checked.checked.items =
          subst (λ (cs : List Checked). AllZip (IsChecked image plan) [] cs) (sym c.in_ok-checked.ensures.items) tt in
          let all = subst (λ (ns : List Named). AllZip (IsKnownBefore image plan) (ns ++ flat_map named_by_shard bindings) c.args.known.now) (sym named) known in
          subst (λ (ns : List Named). AllZip (IsChecked image plan) ns c.append_checked.new.checked.items) (named ∙ sym whole)
          (c.in_ok-append_checked.ensures.each image plan [] (flat_map named_by_shard bindings) all nothing);
    }

pub append_checked-requires-in-loop-binding-clause-count : goal.append_checked-requires-in-loop-binding-clause-count
append_checked-requires-in-loop-binding-clause-count c =
    let runs = c.args.runs.now in
    let bindings = c.args.bindings.now in
    let k = c.loop-binding.binding-index in
    let b = c.binding-item.result in
    let named : c.deref-in-loop-binding.result.now ≡ named_by_shard b =
    c.deref-in-loop-binding.ensures.value ∙ c.in_ok-name_shard.ensures.appended ∙ ap (λ ns. ns ++ named_by_shard b) c.clear.ensures.items in
    let names = ap (λ (ns : List Named). length ns) (at_binding runs bindings k b c.loop-binding-test.true c.binding-item.is) in
    let many = ap (λ (ns : List Named). length ns) named in
    let first = length-append (named_first runs bindings k) (named_by_shard b ++ named_later bindings k) in
    let more = length-append (named_by_shard b) (named_later bindings k) in
    omega (arith, c.requires.count, names, many, first, more, c.loop-binding.invariant.count)

pub loop-binding-preserved : goal.loop-binding-preserved
loop-binding-preserved c =
    let runs = c.args.runs.now in
    let bindings = c.args.bindings.now in
    let k = c.loop-binding.binding-index in
    let b = c.binding-item.result in
    let named : c.deref-in-loop-binding.result.now ≡ named_by_shard b =
    c.deref-in-loop-binding.ensures.value ∙ c.in_ok-name_shard.ensures.appended ∙ ap (λ ns. ns ++ named_by_shard b) c.clear.ensures.items in
    let grown = first_more runs bindings k b c.loop-binding-test.true c.binding-item.is in
    record {
      count =
          let many = ap (λ (ns : List Named). length ns) named in
          let all = ap (λ (ns : List Named). length ns) grown in
          let both = length-append (named_first runs bindings k) (named_by_shard b) in
          omega (arith, c.in_ok-append_checked-2.ensures.count, c.loop-binding.invariant.count, many, all, both);
      each = λ image plan known.
          let names = at_binding runs bindings k b c.loop-binding-test.true c.binding-item.is
          ∙ ap (λ ns. named_first runs bindings k ++ (ns ++ named_later bindings k)) (sym named) in
          let all = subst (λ (ns : List Named). AllZip (IsKnownBefore image plan) ns c.args.known.now) names known in
          subst (λ (ns : List Named). AllZip (IsChecked image plan) ns c.append_checked-in-loop-binding.new.checked.items)
          (ap (λ ns. named_first runs bindings k ++ ns) named ∙ grown)
          (c.in_ok-append_checked-2.ensures.each image plan (named_first runs bindings k) (named_later bindings k) all
          (c.loop-binding.invariant.each image plan known));
    }

pub returns : goal.returns
returns c = λ image plan known.
    let runs = c.args.runs.now in
    let bindings = c.args.bindings.now in
    let all : named_first runs bindings c.loop-binding.binding-index ≡ named_locators runs bindings =
    ap (λ bs. named_by_runs 0 runs ++ flat_map named_by_shard bs) (take_all c.loop-binding.binding-index bindings c.loop-binding-test.false) in
    each_checked image plan (named_locators runs bindings) c.loop-binding.checked.items
    (subst (λ (ns : List Named). AllZip (IsChecked image plan) ns c.loop-binding.checked.items) all (c.loop-binding.invariant.each image plan known))
