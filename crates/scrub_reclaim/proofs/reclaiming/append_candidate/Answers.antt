-- The candidate's line, and then those of its moves.
use Rattle.std.proofs.Common.{◌≡◌, ◌++◌, List, OnOk, ℕ, rules, subst}
use Rattle.std.specs.Prelude.{string_bytes}
use Rattle.std.specs.List.{flat_map}
use Rattle.scrub_listings.proofs.FlatLists.{appended_ok}
use Rattle.scrub_reclaim.specs.Reclaimable.{move_line, moves, reclaim_line}
use Rattle.scrub_reclaim.proofs.MoveLines.{by_chunk}
use Rattle.scrub_reclaim.proofs.reclaiming.append_candidate.Goals as goal

pub returns : goal.returns
returns c checked same =
    let old = string_bytes c.args.text.now in
    let mid = string_bytes c.append_reclaim.new.text in
    let a = c.args.candidate.now in
    let first : mid ≡ old ++ reclaim_line a = search rules in
    let all = string_bytes c.append_kept.new.text in
    appended_ok c.append_kept.result old mid all (reclaim_line a) (flat_map move_line (moves checked a)) first
    (subst (λ (part : List ℕ). OnOk c.append_kept.result (all ≡ mid ++ part)) (by_chunk checked a) (search (rules, c.append_kept.ensures checked same)))
