-- The chunks are parted into live ones and orphans.
use Rattle.std.proofs.Common.{◌≡◌, ◌-◌, ◌++◌, ◌∷◌, [], ℕ, List, OnOk, codes, length, ap, ◌∙◌, subst}
use Rattle.std.specs.Prelude.{string_bytes}
use Rattle.std.specs.List.{sum, sum_by}
use Rattle.std.proofs.lemmas.List.Sums.{sum-map}
use Rattle.scrub_check.specs.Chunks.{chunks}
use Rattle.scrub_check.specs.Live.{live_bytes}
use Rattle.scrub_listings.specs.Summary.{NamedNumber, chunk_numbers, live_count, number_lines, orphan_bytes}
use Rattle.scrub_listings.proofs.SummaryChunks.{chunks_counted, live_counted, orphan_bytes_left}
use Rattle.scrub_listings.proofs.summary.append_chunks.Goals as goal

pub returns : goal.returns
returns g c = λ checked live_are orphans_are.
    let all = c.args.all.now.extents in
    let n = c.args.orphan_count in
    let chunks_are : c.counted_in_all-chunks.result ≡ length (chunks all) = c.counted_in_all-chunks.ensures.sum ∙ chunks_counted all in
    let live_is : c.sum_of-live_bytes.result ≡ sum_by (live_bytes checked) all =
    c.sum_of-live_bytes.ensures ∙ ap sum live_are ∙ sum-map (live_bytes checked) all in
    let live_chunks_are : c.saturating_sub.result ≡ live_count all checked =
    c.saturating_sub.ensures ∙ ap (λ (t : ℕ). t - n) c.counted_in_all-chunks.ensures.sum ∙ live_counted all checked n orphans_are in
    let left : c.saturating_sub-2.result ≡ sum_by (orphan_bytes checked) all =
    c.saturating_sub-2.ensures ∙ ap (λ (t : ℕ). t - c.sum_of-live_bytes.result) c.counted_in_all-bytes.ensures.sum ∙ orphan_bytes_left all checked c.sum_of-live_bytes.result live_is in
    let numbers : ℕ → ℕ → ℕ → ℕ → ℕ → ℕ → ℕ → List NamedNumber = λ a b d e f h k.
    (codes "chunks", a) ∷ (codes "chunk_bytes", b) ∷ (codes "live_chunks", d) ∷ (codes "live_bytes", e) ∷ (codes "orphans", f)
    ∷ (codes "orphan_bytes", h) ∷ (codes "twins", k) ∷ (codes "shared_places", c.args.shared) ∷ [] in
    let is : numbers c.counted_in_all-chunks.result c.counted_in_all-bytes.result c.saturating_sub.result c.sum_of-live_bytes.result n
    c.saturating_sub-2.result c.args.twin_count
    ≡ chunk_numbers all checked c.args.shared =
    (λ i. numbers (chunks_are i) (c.counted_in_all-bytes.ensures.sum i) (live_chunks_are i) (live_is i) (orphans_are i) (left i) (c.requires i)) in
    subst (λ (ns : List NamedNumber). OnOk c.append_numbers.result (string_bytes c.append_numbers.new.text ≡ string_bytes c.args.text.now ++ number_lines ns)) is
    c.append_numbers.ensures
