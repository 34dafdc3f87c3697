-- The entries before the place are those before the identifier, since they ascend.
use Rattle.std.proofs.Common.{rules, ◌≡◌, ◌∙◌, List, ap, cond, not, true, false, sym}
use Rattle.std.specs.List.{filter}
use Rattle.std.specs.List.Sorted.{IsPartitionPoint}
use Rattle.std.proofs.lemmas.List.Sorted.{IsPartitionPoint-from_clause}
use Rattle.scrub_run.specs.Entry.{EntryValue}
use Rattle.scrub_merge.specs.steps.Parts.{is_before, is_on}
use Rattle.scrub_merge.proofs.Parted.{are_parted, first_part, last_part}
use Rattle.scrub_merge.proofs.part.Part.on_side.Goals as goal
use Rattle.scrub_merge.proofs.part.Part.on_side.Goals.{Then-side, Else-side}

pub returns-then-side : goal.returns-then-side
returns-then-side c =
    let entries : List EntryValue = c.self.inside.entries.now in
    let id = c.args.side.id in
    let point : IsPartitionPoint (λ (e : EntryValue). is_before id e.id ≡ true) (λ e. is_before id e.id ≡ false) entries c.partition_point-place.result =
    IsPartitionPoint-from_clause (λ (e : EntryValue). is_before id e.id) entries c.partition_point-place.result
    c.partition_point-place.ensures.partitioned (are_parted entries c.self.invariant.rising id) (λ a r f' called. search rules) in
    c.split_at.ensures.front
    ∙ first_part entries c.self.invariant.rising id c.partition_point-place.result point c.partition_point-place.ensures.bound
    ∙ ap (λ t. filter (λ (e : EntryValue). cond t (is_before id e.id) (not (is_before id e.id))) entries) (sym c.if-side.true)
    ∙ ap (λ es. filter (λ (e : EntryValue). is_on c.args.side e.id) es) c.self.view_is

pub returns : goal.returns
returns c =
    let entries : List EntryValue = c.self.inside.entries.now in
    let id = c.args.side.id in
    let point : IsPartitionPoint (λ (e : EntryValue). is_before id e.id ≡ true) (λ e. is_before id e.id ≡ false) entries c.partition_point-place.result =
    IsPartitionPoint-from_clause (λ (e : EntryValue). is_before id e.id) entries c.partition_point-place.result
    c.partition_point-place.ensures.partitioned (are_parted entries c.self.invariant.rising id) (λ a r f' called. search rules) in
    c.split_at.ensures.back
    ∙ last_part entries c.self.invariant.rising id c.partition_point-place.result point c.partition_point-place.ensures.bound
    ∙ ap (λ t. filter (λ (e : EntryValue). cond t (is_before id e.id) (not (is_before id e.id))) entries) (sym c.if-side.false)
    ∙ ap (λ es. filter (λ (e : EntryValue). is_on c.args.side e.id) es) c.self.view_is
