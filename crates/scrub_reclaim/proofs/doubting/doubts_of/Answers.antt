-- The doubts of spares and of loose copies are by the copies among the parts, and the others follow.
use Rattle.std.proofs.Common.{◌≡◌, ◌++◌, ◌∙◌, ℕ, List, ap, map, rules}
use Rattle.std.specs.List.{flat_map}
use Rattle.scrub_found.specs.Judged.{run_states}
use Rattle.scrub_reclaim.specs.declared.doubts.Doubt.{Doubt}
use Rattle.scrub_reclaim.specs.Doubts.{choice_doubts, crowded_doubts, last_doubts, loose_doubts, page_doubts, run_doubts, spare_doubts, superblock_damaged, superblock_lost, superblock_stray, tail_doubts, tail_lost_doubts}
use Rattle.scrub_reclaim.proofs.LooseDoubts.{crowded_alike}
use Rattle.scrub_reclaim.proofs.doubting.doubts_of.Goals as goal

pub returns : goal.returns
returns g c loose kept =
    let parts = c.args.parts.now in
    let judged = parts.judged in
    let all = judged.scan.all.extents in
    let checked = judged.checked.items in
    let candidates = parts.candidates.items in
    let pages = c.args.pages.now in
    let page : ℕ = judged.scan.plan.geometry.page in
    let first : c.in_ok-doubts.doubts.items ≡ choice_doubts judged.scan.chosen ++ last_doubts judged.scan.chosen c.args.last
    ++ page_doubts superblock_lost pages ++ page_doubts superblock_damaged pages ++ page_doubts superblock_stray pages
    ++ run_doubts (run_states judged.runs.items) = rw c.deref.ensures.value at c.in_ok-doubts.ensures in
    let by_spares : c.add_spares.new.doubts.items ≡ c.in_ok-doubts.doubts.items ++ spare_doubts all checked candidates =
    c.in_ok-add_spares.ensures all kept.spares in
    let by_loose : c.add_loose.new.doubts.items ≡ c.add_spares.new.doubts.items ++ loose_doubts all loose.frames checked candidates =
    c.in_ok-add_loose.ensures loose kept in
    let by_crowded : c.add_crowded.new.doubts.items ≡ c.add_loose.new.doubts.items ++ crowded_doubts all loose.crowded checked candidates =
    (rw c.crowded.ensures at c.in_ok-add_crowded.ensures)
    ∙ ap (λ (u : List Doubt). c.add_loose.new.doubts.items ++ u)
    (crowded_alike all checked loose parts.copies kept (map (λ a. a.extent) candidates) parts.listed c.requires.listed) in
    let by_tails : c.add_tails.new.doubts.items ≡ c.add_crowded.new.doubts.items ++ flat_map tail_doubts all = c.in_ok-add_tails.ensures in
    let last : c.add_lost_tails.new.doubts.items ≡ c.add_tails.new.doubts.items ++ flat_map (tail_lost_doubts page) all = search rules in
    last
    ∙ ap (λ (u : List Doubt). u ++ flat_map (tail_lost_doubts page) all)
    (by_tails
    ∙ ap (λ (u : List Doubt). u ++ flat_map tail_doubts all)
    (by_crowded
    ∙ ap (λ (u : List Doubt). u ++ crowded_doubts all loose.crowded checked candidates)
    (by_loose
    ∙ ap (λ (u : List Doubt). u ++ loose_doubts all loose.frames checked candidates)
    (by_spares ∙ ap (λ (u : List Doubt). u ++ spare_doubts all checked candidates) first))))
