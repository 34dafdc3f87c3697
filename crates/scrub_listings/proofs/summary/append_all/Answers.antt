-- Each group of numbers comes after those before it, and what the code keeps is what was found.
use Rattle.std.proofs.Common.{◌≡◌, ◌++◌, [], List, OnOk, arith, is_none, length, ap, ◌∙◌, subst}
use Rattle.std.specs.Prelude.{string_bytes}
use Rattle.std.specs.List.{count_by}
use Rattle.scrub_check.specs.Chunks.{orphans}
use Rattle.scrub_found.specs.declared.runs.RunRow.{RunRow}
use Rattle.scrub_found.specs.Judged.{found_in}
use Rattle.scrub_listings.specs.Summary.{NamedNumber, candidate_numbers, chunk_numbers, disk_numbers, has_loose_copy, has_loose_copy_by, has_spare, has_spare_by, item_numbers, number_lines, numbers_by, reading_numbers, shard_numbers, superblock_numbers}
use Rattle.scrub_listings.specs.steps.Summary.{beside_lists}
use Rattle.scrub_listings.proofs.ReadRows.{lost_found}
use Rattle.scrub_listings.proofs.SummaryLines.{last_lines, loose_counted, more_lines, spared_found}
use Rattle.scrub_listings.proofs.summary.append_all.Goals as goal

pub returns : goal.returns
returns g c = λ read image are rows.
    let j = c.args.judged.now in
    let l = c.args.lists.now in
    let pages = c.args.pages.now in
    let all = j.scan.all.extents in
    let checked = j.checked.items in
    let copies = c.args.copies.now in
    let lost_is : c.lost_run_count-lost.result ≡ count_by is_none read.runs =
    c.lost_run_count-lost.ensures ∙ ap (count_by (λ (r : RunRow). is_none r.entries)) c.deref.ensures.value ∙ lost_found j.scan.plan.runs read j.runs.items rows in
    let spared_is : c.count_spared-spared.result ≡ count_by (has_spare all) checked =
    c.count_spared-spared.ensures
    ∙ ap (count_by (has_spare_by copies.spares)) c.deref-2.ensures.value
    ∙ spared_found all checked copies.spares are.spares in
    let loose_is : c.count_loose-loose.result ≡ count_by (has_loose_copy all are.found.frames) checked =
    c.count_loose-loose.ensures
    ∙ ap (count_by (has_loose_copy_by copies)) c.deref-3.ensures.value
    ∙ loose_counted [] image j.scan.plan all checked copies are in
    let orphans_are : c.len-orphan_count.result ≡ length (orphans all checked) =
    (let e : c.len-orphan_count.result ≡ length l.liveness.orphans.items = omega (arith, c.len-orphan_count.ensures, l.liveness.orphans.ok.0) in e)
    ∙ ap length c.requires.liveness_is.orphans_are in
    let shared_are : c.len-shared.result ≡ length l.liveness.shared.items = omega (arith, c.len-shared.ensures, l.liveness.shared.ok.0) in
    let broken_are : c.len-broken.result ≡ length l.broken.items = omega (arith, c.len-broken.ensures, l.broken.ok.0) in
    let t0 = string_bytes c.args.text.now in
    let t1 = string_bytes c.append_disk.new.text in
    let t2 = string_bytes c.append_superblocks.new.text in
    let t3 = string_bytes c.append_reading.new.text in
    let t4 = string_bytes c.append_shards.new.text in
    let t5 = string_bytes c.append_chunks.new.text in
    let t6 = string_bytes c.append_items.new.text in
    let t7 = string_bytes c.append_candidates.new.text in
    let n1 : List NamedNumber = disk_numbers j.scan.plan in
    let n2 : List NamedNumber = superblock_numbers j.scan.chosen pages in
    let n3 : List NamedNumber = reading_numbers j.scan.chosen j.scan.plan all c.lost_run_count-lost.result in
    let n4 : List NamedNumber = shard_numbers c.bindings-bindings.result.now c.len-broken.result c.deref-4.result.now c.count_spared-spared.result c.count_loose-loose.result in
    let n5 : List NamedNumber = chunk_numbers all checked c.len-shared.result in
    let n6 : List NamedNumber = item_numbers all in
    let n7 : List NamedNumber = candidate_numbers c.deref-6.result.now in
    let is : n1 ++ n2 ++ n3 ++ n4 ++ n5 ++ n6 ++ n7 ≡ numbers_by pages (found_in j (beside_lists read l)) are.found.frames (count_by is_none read.runs) =
    (λ i. n1 ++ n2 ++ reading_numbers j.scan.chosen j.scan.plan all (lost_is i)
    ++ shard_numbers (c.bindings-bindings.ensures.bindings i) (broken_are i) (c.deref-4.ensures.value i) (spared_is i) (loose_is i)
    ++ chunk_numbers all checked (shared_are i)
    ++ n6 ++ candidate_numbers (c.deref-6.ensures.value i)) in
    subst (λ (ns : List NamedNumber). OnOk c.append_candidates.result (t7 ≡ t0 ++ number_lines ns)) is
    (last_lines c.append_candidates.result t0 t6 t7 (n1 ++ n2 ++ n3 ++ n4 ++ n5 ++ n6) n7
    (more_lines t0 t5 t6 (n1 ++ n2 ++ n3 ++ n4 ++ n5) n6
    (more_lines t0 t4 t5 (n1 ++ n2 ++ n3 ++ n4) n5
    (more_lines t0 t3 t4 (n1 ++ n2 ++ n3) n4
    (more_lines t0 t2 t3 (n1 ++ n2) n3
    (more_lines t0 t1 t2 n1 n2 c.in_ok-append_disk.ensures c.in_ok-append_superblocks.ensures)
    c.in_ok-append_reading.ensures)
    c.in_ok-append_shards.ensures)
    (c.in_ok-append_chunks.ensures checked (c.deref-5.ensures.value ∙ c.requires.liveness_is.live) orphans_are))
    c.in_ok-append_items.ensures)
    c.append_candidates.ensures)
