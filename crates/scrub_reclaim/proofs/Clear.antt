-- The lines of what can be reclaimed are those of what was found, an image has one such text, and reclaiming is safe.
use Rattle.std.proofs.Common.{◌≡◌, ◌++◌, ◌==◌, ◌&&◌, ℕ, Bool, true, false, List, [], ◌∷◌, append-nil, append_assoc, get_or, length, arith, sym, ap, subst, ◌∙◌, if◌then◌else◌}
use Rattle.std.specs.List.{Contains, flat_map}
use Rattle.std.proofs.lemmas.Bool.{eq-eqb, eqb-true, false≢true}
use Rattle.std.proofs.lemmas.List.Elements.{All-contains_itself}
use Rattle.list_facts.proofs.Elements.{Contains-filter, Contains-flat_map, Contains-from_map, Contains-map}
use Rattle.scrub_disk.specs.declared.geometry.Geometry.{Geometry}
use Rattle.scrub_disk.specs.Image.{Image}
use Rattle.scrub_scan.specs.Scanned.{Scanned}
use Rattle.scrub_super.specs.declared.pages.SuperblockPage.{SuperblockPage}
use Rattle.scrub_super.proofs.PageLaws.{one_list_of_pages}
use Rattle.scrub_check.specs.declared.lists.kept_chunk.KeptChunk.{KeptChunk}
use Rattle.scrub_check.specs.declared.statuses.checked.Checked.{Checked}
use Rattle.scrub_check.specs.declared.runs.RunState.{RunState}
use Rattle.scrub_check.specs.Candidates.{CandidateValue}
use Rattle.scrub_check.specs.SafeCandidates.{IsKept, AreSafe}
use Rattle.scrub_check.proofs.KeptChunks.{candidates_safe}
use Rattle.scrub_check.proofs.OneList.{the_broken, the_shared}
use Rattle.scrub_loose.specs.Loose.{AreLoose, LooseValue}
use Rattle.scrub_loose.proofs.OneLoose.{one_loose}
use Rattle.scrub_found.specs.Judged.{Beside, IsFoundOn, found_in}
use Rattle.scrub_report.specs.Report.{IsReport, report_text}
use Rattle.scrub_found.specs.Scrubbed.{Scrubbed, IsScrubbed, is_in_doubt}
use Rattle.scrub_found.proofs.FoundBeside.{beside, with_lists}
use Rattle.scrub_found.proofs.OneScrub.{one_scrub}
use Rattle.scrub_found.proofs.ResetPlans.{whole_but}
use Rattle.scrub_reclaim.specs.Doubts.{Acceptance, accepted_on}
use Rattle.scrub_reclaim.specs.declared.doubts.Doubt.{Doubt}
use Rattle.scrub_reclaim.specs.Doubts.{are_accepted, doubts_in}
use Rattle.scrub_reclaim.specs.Reclaimable.{AreMoved, AreOfCandidates, AreReclaimLines, IsMoved, MoveValue, accepted_in, all_candidate_lines, candidate_lines, doubt_line, doubt_lines, doubts_for, is_clear, moves_of, pointing_to, points_to, reclaim_text, reclaimed, rooms_for}
use Rattle.scrub_reclaim.specs.declared.reclaim_parts.ReclaimParts.{ReclaimParts}
use Rattle.scrub_reclaim.specs.steps.ReclaimParts.{AreKeptOf, AreReclaimParts, doubts_of, lines_if}
use Rattle.scrub_reclaim.specs.Room.{room_lines}

-- ---- what the code writes

module _ {D : Type 0} (image : Image) (g : ReclaimParts D) (are : AreReclaimParts image g) (pages : List SuperblockPage) (accepted : Acceptance) where
  -- what is found beside the parts
  abbrev pub beside_parts : Beside
  beside_parts =
      beside [] image g.judged are.judged (the_shared g.judged.checked.items).answer (the_broken g.judged.checked.items).answer g.candidates.items

  -- The parts, with what is found beside them, are what is found in the image.
  pub found_of_parts : IsFoundOn image g.judged beside_parts
  found_of_parts =
      let shared = the_shared g.judged.checked.items in
      let broken = the_broken g.judged.checked.items in
      with_lists [] image g.judged are.judged shared.answer broken.answer g.candidates.items shared.meets broken.meets are.candidates

  -- What is found on the disk, by the parts.
  abbrev pub found_by : Scrubbed
  found_by = found_in g.judged beside_parts

  -- The loose frames that the copies are made from.
  abbrev pub loose_of_parts : LooseValue
  loose_of_parts = are.copies.found

  -- The copies are kept of a disk with these.
  pub kept_of_parts : AreKeptOf loose_of_parts g
  kept_of_parts = record { spares = are.copies.spares; each = are.copies.loose; asked = are.copies.asked; crowded = are.copies.crowded }

  -- the doubts of the rows are those of the runs
  doubts_found : doubts_of accepted.last pages loose_of_parts g ≡ doubts_for accepted pages loose_of_parts found_by
  doubts_found =
      ap (λ (states : List RunState). doubts_in g.judged.scan.chosen accepted.last pages states g.judged.scan.plan.geometry.page g.judged.scan.all.extents loose_of_parts g.judged.checked.items g.candidates.items)
      found_of_parts.rows.states_are

  -- the verdict is that of what was found
  pub clear_found : (list : List Doubt) (clear : Bool) → list ≡ doubts_of accepted.last pages loose_of_parts g →
      clear ≡ are_accepted (accepted_on accepted g.judged.scan.chosen) list → clear ≡ is_clear accepted pages loose_of_parts found_by
  clear_found list clear listed is = is ∙ ap (are_accepted (accepted_on accepted g.judged.scan.chosen)) (listed ∙ doubts_found)

  -- the text is that of what was found
  pub lines_found : (list : List Doubt) (clear : Bool) (lines text : List ℕ) → list ≡ doubts_of accepted.last pages loose_of_parts g →
      clear ≡ are_accepted (accepted_on accepted g.judged.scan.chosen) list → lines ≡ doubt_lines (accepted_on accepted g.judged.scan.chosen) list →
      text ≡ lines ++ lines_if clear loose_of_parts g → text ≡ reclaim_text accepted pages loose_of_parts found_by
  lines_found list clear lines text listed is first all =
      let front : List ℕ = doubt_lines (accepted_in accepted found_by) (doubts_for accepted pages loose_of_parts found_by) in
      all
      ∙ ap (λ (u : List ℕ). u ++ lines_if clear loose_of_parts g) (first ∙ ap (doubt_lines (accepted_on accepted g.judged.scan.chosen)) (listed ∙ doubts_found))
      ∙ ap (λ (b : Bool). front ++ lines_if b loose_of_parts g) (clear_found list clear listed is)
      ∙ sym (append_assoc front (all_candidate_lines g.judged.checked.items (reclaimed accepted pages loose_of_parts found_by)) (rooms_for (reclaimed accepted pages loose_of_parts found_by) loose_of_parts found_by))

-- if there are no candidates, nothing is listed
no_lines_of : (clear : Bool) (geometry : Geometry) (all : List Scanned) (loose : LooseValue) (checked : List Checked) (cs : List CandidateValue) (old : List ℕ) →
    (length cs == 0) ≡ true →
    old ≡ old ++ (all_candidate_lines checked (if clear then cs else []) ++ (if length (if clear then cs else []) == 0 then [] else room_lines geometry all loose checked (if clear then cs else [])))
no_lines_of false geometry all loose checked cs old none = sym (append-nil old)
no_lines_of true geometry all loose checked [] old none = sym (append-nil old)
no_lines_of true geometry all loose checked (c ∷ cs) old none =
    let e : length (c ∷ cs) ≡ 0 = eqb-true (length (c ∷ cs)) 0 none in absurd (omega (arith, e))

-- if there are some and it is clear, all of them are
some_lines_of : (clear : Bool) (geometry : Geometry) (all : List Scanned) (loose : LooseValue) (checked : List Checked) (cs : List CandidateValue) →
    clear ≡ true → (length cs == 0) ≡ false →
    all_candidate_lines checked cs ++ room_lines geometry all loose checked cs
    ≡ all_candidate_lines checked (if clear then cs else []) ++ (if length (if clear then cs else []) == 0 then [] else room_lines geometry all loose checked (if clear then cs else []))
some_lines_of false geometry all loose checked cs is some = absurd (false≢true is)
some_lines_of true geometry all loose checked [] is some = absurd (false≢true (sym some))
some_lines_of true geometry all loose checked (c ∷ cs) is some =
    ap (λ (b : Bool). all_candidate_lines checked (c ∷ cs) ++ (if b then [] else room_lines geometry all loose checked (c ∷ cs))) (sym some)

module _ {D : Type 0} (clear : Bool) (loose : LooseValue) (g : ReclaimParts D) where
  -- Without candidates no line follows those of the doubts.
  pub no_lines : (old : List ℕ) → (length g.candidates.items == 0) ≡ true → old ≡ old ++ lines_if clear loose g
  no_lines old none = no_lines_of clear g.judged.scan.plan.geometry g.judged.scan.all.extents loose g.judged.checked.items g.candidates.items old none

  -- If it is clear, the lines of the candidates and of the rooms follow those of the doubts.
  pub some_lines : clear ≡ true → (length g.candidates.items == 0) ≡ false →
      all_candidate_lines g.judged.checked.items g.candidates.items
      ++ room_lines g.judged.scan.plan.geometry g.judged.scan.all.extents loose g.judged.checked.items g.candidates.items ≡ lines_if clear loose g
  some_lines is some = some_lines_of clear g.judged.scan.plan.geometry g.judged.scan.all.extents loose g.judged.checked.items g.candidates.items is some

-- ---- one text, and one verdict

module _ (image : Image) (accepted : Acceptance) where
  -- For one acceptance an image has at most one text of what can be reclaimed, and one verdict.
  pub one_reclaim_lem : (a b : List ℕ) (v w : Bool) → AreReclaimLines image accepted a v → AreReclaimLines image accepted b w →
      (a ≡ b) × (v ≡ w)
  one_reclaim_lem a b v w x y =
      let same = one_scrub image x.found y.found x.scrubbed y.scrubbed in
      let pages = one_list_of_pages image x.pages y.pages x.held y.held in
      let loose = one_loose [] image y.found.plan x.loose y.loose (subst (λ (s : Scrubbed). AreLoose [] image s.plan x.loose) same x.are_loose) y.are_loose in (
        x.text_is ∙ (λ i. reclaim_text accepted (pages i) (loose i) (same i)) ∙ sym y.text_is,
        x.verdict ∙ (λ i. is_clear accepted (pages i) (loose i) (same i)) ∙ sym y.verdict,
      )

  -- the extents are those of the report
  pub of_candidates : (report text : List ℕ) (clear : Bool) → IsReport image report →
      AreReclaimLines image accepted text clear → AreOfCandidates image accepted report text clear
  of_candidates report text clear r t = record {
    found = t.found;
    scrubbed = t.scrubbed;
    pages = t.pages;
    held = t.held;
    loose = t.loose;
    are_loose = t.are_loose;
    report_is = r.text_is ∙ ap report_text (one_scrub image r.found t.found r.scrubbed t.scrubbed);
    text_is =
        t.text_is
        ∙ ap
        (λ (b : Bool). flat_map (doubt_line (accepted_in accepted t.found)) (doubts_for accepted t.pages t.loose t.found) ++ flat_map (candidate_lines t.found.checked) (if b then t.found.candidates else []) ++ rooms_for (if b then t.found.candidates else []) t.loose t.found)
        (sym t.verdict);
  }

-- ---- what is reclaimed is safe

-- a locator points to its own place
own_place : (c : Checked) (e p : ℕ) → c.locator.extent ≡ e → c.locator.offset ≡ p → points_to e p c ≡ true
own_place c e p same at =
    ap (λ b. b && (c.locator.offset == p)) (eq-eqb c.locator.extent e same) ∙ eq-eqb c.locator.offset p at

-- a locator that points to a chunk to keep is among the moves
moved : (checked : List Checked) (a : CandidateValue) (c : Checked) → Contains checked c → c.locator.extent ≡ a.extent →
    IsKept a c → IsMoved checked a c
moved checked a c there same k = record {
  sound = k.sound;
  chunk = kept.0;
  kept = kept.1;
  start_is = kept.2;
  line =
      Contains-flat_map (moves_of checked a.extent) a.chunks kept.0 (move_by kept.0.bytes c) kept.1
      (Contains-map (move_by kept.0.bytes) (pointing_to checked a.extent kept.0.start) c
      (Contains-filter (points_to a.extent kept.0.start) checked c (own_place c a.extent kept.0.start same (sym kept.2)) there));
}
  where
    kept : (chunk : KeptChunk) × Contains a.chunks chunk × (chunk.start ≡ c.locator.offset)
    kept = Contains-from_map (λ (chunk : KeptChunk). chunk.start) a.chunks c.locator.offset k.kept

    move_by : ℕ → Checked → MoveValue
    move_by bytes d = record { named = d; bytes = bytes }

all_moved : (checked : List Checked) (candidates : List CandidateValue) → AreSafe checked candidates →
    AreMoved checked candidates
all_moved checked candidates safe i d below j e within same =
    moved checked (get_or candidates i d) (get_or checked j e) (All-contains_itself checked j e within) same
    (safe i d below j e within same)

-- Each named locator into an extent to reclaim is sound and among the moves out of it.
pub safe_to_reclaim : (image : Image) (accepted : Acceptance) (pages : List SuperblockPage) (loose : LooseValue) (found : Scrubbed) →
    IsScrubbed image found → AreMoved found.checked (reclaimed accepted pages loose found)
safe_to_reclaim image accepted pages loose found x = by (is_clear accepted pages loose found)
  where
    safe : AreSafe found.checked found.candidates
    safe =
        candidates_safe image found.plan found.all found.checked (is_in_doubt found.choice found.read) found.candidates
        (whole_but [] found.choice found.plan image found.all x.choice x.plan x.all) x.checked.statuses x.candidates

    by : (b : Bool) → AreMoved found.checked (if b then found.candidates else [])
    by true = all_moved found.checked found.candidates safe
    by false = λ i d below. absurd (omega (arith, below))
