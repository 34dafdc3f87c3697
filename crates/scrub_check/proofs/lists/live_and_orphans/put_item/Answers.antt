use Rattle.std.proofs.Common.{◌≡◌, ◌+◌, ◌++◌, ◌∷◌, [], true, false, ℕ, nat_lt, refl, sym, ◌∙◌, ap}
use Rattle.std.proofs.Math.Path.{ap₂}
use Rattle.std.specs.List.{count_by}
use Rattle.std.proofs.lemmas.List.{append-nil}
use Rattle.scrub_scan.specs.Item.{start_of}
use Rattle.scrub_check.specs.declared.lists.kept_chunk.KeptChunk.{KeptChunk}
use Rattle.scrub_check.specs.declared.lists.live_and_orphans.LiveChunks.{LiveChunks}
use Rattle.scrub_check.specs.steps.Places.{is_place}
use Rattle.scrub_check.proofs.PartedItems.{a_chunk, live_more, other_more}
use Rattle.scrub_check.proofs.lists.live_and_orphans.put_item.Goals as goal

-- no place is that of the chunk
pub returns-then-not-has-clause-live : goal.returns-then-not-has-clause-live
returns-then-not-has-clause-live c = λ items known.
    let starts = c.args.cursor.now.starts.now in
    let e = c.args.extent in
    let item = c.args.item.now in
    let named : false ≡ nat_lt 0 (count_by (is_place (record { extent = e; offset = start_of item })) starts) =
    sym c.if-not-has.true ∙ c.has.ensures.stands
    ∙ ap (λ (n : ℕ). nat_lt 0 (count_by (is_place (record { extent = e; offset = n })) starts)) c.start-offset.ensures in
    let here = a_chunk starts e item c.in-Some.chunk false (sym c.place_of.ensures ∙ c.in-Some.is) named in
    other_more starts e items item c.args.live.now c.args.live.now known here.0 refl refl

pub returns-then-not-has-clause-orphans : goal.returns-then-not-has-clause-orphans
returns-then-not-has-clause-orphans c =
    let starts = c.args.cursor.now.starts.now in
    let e = c.args.extent in
    let item = c.args.item.now in
    let named : false ≡ nat_lt 0 (count_by (is_place (record { extent = e; offset = start_of item })) starts) =
    sym c.if-not-has.true ∙ c.has.ensures.stands
    ∙ ap (λ (n : ℕ). nat_lt 0 (count_by (is_place (record { extent = e; offset = n })) starts)) c.start-offset.ensures in
    let here = a_chunk starts e item c.in-Some.chunk false (sym c.place_of.ensures ∙ c.in-Some.is) named in
    c.in_ok-push.ensures.items ∙ ap (λ ps. c.args.orphans.now.items ++ ps) (sym here.1)

-- a place is
pub returns-clause-live : goal.returns-clause-live
returns-clause-live c = λ items known.
    let starts = c.args.cursor.now.starts.now in
    let e = c.args.extent in
    let item = c.args.item.now in
    let old = c.args.live.now in
    let new : LiveChunks = record { bytes = old.bytes + c.size_of-bytes.result; kept = c.push-2.new.self } in
    let named : true ≡ nat_lt 0 (count_by (is_place (record { extent = e; offset = start_of item })) starts) =
    sym c.if-not-has.false ∙ c.has.ensures.stands
    ∙ ap (λ (n : ℕ). nat_lt 0 (count_by (is_place (record { extent = e; offset = n })) starts)) c.start-offset.ensures in
    let here = a_chunk starts e item c.in-Some.chunk true (sym c.place_of.ensures ∙ c.in-Some.is) named in
    live_more starts e items item old new known here.0 (ap (λ (n : ℕ). old.bytes + n) c.size_of-bytes.ensures)
    (c.in_ok-push-2.ensures.items
    ∙ ap₂ (λ (n m : ℕ). old.kept.items ++ (let k : KeptChunk = record { start = n; bytes = m } in k) ∷ []) c.start-offset.ensures c.size_of-bytes.ensures)

pub returns-clause-orphans : goal.returns-clause-orphans
returns-clause-orphans c =
    let starts = c.args.cursor.now.starts.now in
    let e = c.args.extent in
    let item = c.args.item.now in
    let named : true ≡ nat_lt 0 (count_by (is_place (record { extent = e; offset = start_of item })) starts) =
    sym c.if-not-has.false ∙ c.has.ensures.stands
    ∙ ap (λ (n : ℕ). nat_lt 0 (count_by (is_place (record { extent = e; offset = n })) starts)) c.start-offset.ensures in
    let here = a_chunk starts e item c.in-Some.chunk true (sym c.place_of.ensures ∙ c.in-Some.is) named in
    sym (append-nil c.args.orphans.now.items) ∙ ap (λ ps. c.args.orphans.now.items ++ ps) (sym here.1)
