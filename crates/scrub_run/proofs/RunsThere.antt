-- Whether a payload is a run is decided: it is that of the entries that its bytes spell, or of none.
use Rattle.std.proofs.Common.{◌≡◌, ◌⊎◌, ◌<◌, ◌≤◌, ◌^◌, ℕ, zero, suc, List, [], ◌∷◌, ◌++◌, length, take, drop, All, arith, refl, sym, ◌∙◌, ap, append_assoc, subst, inl, inr}
use Rattle.std.specs.List.{flat_map}
use Rattle.std.specs.Cmp.Lexicographic.{slice_cmp}
use Rattle.std.specs.Ordering.{nat_cmp, is_lt}
use Rattle.std.specs.declared.cmp.Ordering.{Ordering}
use Rattle.std.specs.declared.cmp.Ordering.TheVariants.{Less, Equal, Greater}
use Rattle.std.proofs.lemmas.Bool.{false≢true}
use Rattle.byteorder.specs.Endian.{big_number}
use Rattle.sha2.specs.Sha256.{sha256}
use Rattle.list_facts.proofs.Decisions.{Decided, decided_all, decided_at_most, decided_both, decided_less, decided_like, decided_number, decided_numbers, decided_pairs}
use Rattle.scrub_frame.proofs.Bytes.{number-bytes}
use Rattle.scrub_frame.specs.Locator.{IsLocator}
use Rattle.scrub_frame.proofs.ReadAgain.{decided_locator}
use Rattle.scrub_run.specs.declared.shard_id.ShardId.{ShardId}
use Rattle.scrub_run.specs.Entry.{EntryValue, IsBelow}
use Rattle.scrub_run.specs.Run.{run_bytes, RisesById, AreEntries, IsRun}
use Rattle.scrub_run.specs.steps.Parts.{entry_bytes, IsEntry, run_body}
use Rattle.scrub_run.proofs.Entries.{entry_again, entry_size, read_entry}

-- ---- limits and order

decided_below : (a b : ShardId) → Decided (IsBelow a b)
decided_below a b = by (slice_cmp nat_cmp a.0 b.0)
  where
    by : (o : Ordering) → Decided (o ≡ Less)
    by Less = inl refl
    by Equal = inr (λ e. false≢true (ap is_lt e))
    by Greater = inr (λ e. false≢true (ap is_lt e))

decided_entry : (e : EntryValue) → Decided (IsEntry e)
decided_entry e =
    let sizes : Decided ((length e.id.0 ≡ 16) × (length e.locators ≤ 64)) =
    decided_both (decided_number (length e.id.0) 16) (decided_at_most (length e.locators) 64) in
    let all : Decided (((length e.id.0 ≡ 16) × (length e.locators ≤ 64)) × All IsLocator e.locators) =
    decided_both sizes (decided_all IsLocator decided_locator e.locators) in
    decided_like all (λ h. (h.0.0, h.0.1, h.1)) (λ h. ((h.0, h.1), h.2))

decided_run : (payload : List ℕ) (es : List EntryValue) → Decided (IsRun payload es)
decided_run payload es =
    let each : Decided ((length es < 2 ^ 32) × All IsEntry es) =
    decided_both (decided_less (length es) (2 ^ 32)) (decided_all IsEntry decided_entry es) in
    let entries : Decided (((length es < 2 ^ 32) × All IsEntry es) × RisesById es) =
    decided_both each (decided_pairs (λ (e f : EntryValue). IsBelow e.id f.id) (λ e f. decided_below e.id f.id) es) in
    let limits : Decided (AreEntries es) =
    decided_like entries (λ h. record { count = h.0.0; each = h.0.1; rising = h.1 }) (λ h. ((h.count, h.each), h.rising)) in
    let all : Decided (AreEntries es × (payload ≡ run_bytes es)) =
    decided_both limits (decided_numbers payload (run_bytes es)) in
    decided_like all (λ h. record { entries_of_run = h.0; spelled = h.1 }) (λ h. (h.entries_of_run, h.spelled))

-- ---- the entries that bytes spell

abbrev read_entries : ℕ → List ℕ → List EntryValue
read_entries zero x = []
read_entries (suc n) x = read_entry x ∷ read_entries n (drop (entry_size x) x)

entries_again : (es : List EntryValue) (x r : List ℕ) → All IsEntry es → x ≡ flat_map entry_bytes es ++ r →
    read_entries (length es) x ≡ es
entries_again [] x r all is = refl
entries_again (e ∷ es) x r all is =
    let first = entry_again x e (flat_map entry_bytes es ++ r) (all 0 e (omega arith))
    (is ∙ append_assoc (entry_bytes e) (flat_map entry_bytes es) r) in
    ap (λ (f : EntryValue). f ∷ read_entries (length es) (drop (entry_size x) x)) first.0
    ∙ ap (λ (fs : List EntryValue). e ∷ fs)
    (entries_again es (drop (entry_size x) x) r (λ k d here. all (suc k) d (omega (arith, here))) first.1)

-- the only entries that a payload may be the run of
abbrev entries_in : List ℕ → List EntryValue
entries_in payload = read_entries (big_number 4 (take 4 (drop 4 payload))) (drop 8 payload)

only_those : (payload : List ℕ) (es : List EntryValue) → IsRun payload es → entries_in payload ≡ es
only_those payload es h =
    ap (λ n. read_entries n (drop 8 payload)) count
    ∙ entries_again es (drop 8 payload) (sha256 (run_body es)) h.entries_of_run.each (ap (drop 8) h.spelled)
  where
    count : big_number 4 (take 4 (drop 4 payload)) ≡ length es
    count =
        ap (λ t. big_number 4 (take 4 (drop 4 t))) h.spelled ∙ number-bytes (length es) h.entries_of_run.count

-- a payload is the run of at most one list of entries
pub one_run_lem : (payload : List ℕ) (xs ys : List EntryValue) → IsRun payload xs → IsRun payload ys → xs ≡ ys
one_run_lem payload xs ys h k = sym (only_those payload xs h) ∙ only_those payload ys k

-- bytes are an index run, or aren't one
pub some_run : (payload : List ℕ) →
    ((es : List EntryValue) × IsRun payload es) ⊎ ((es : List EntryValue) → IsRun payload es → ⊥)
some_run payload = by (decided_run payload (entries_in payload))
  where
    by : Decided (IsRun payload (entries_in payload)) →
        ((es : List EntryValue) × IsRun payload es) ⊎ ((es : List EntryValue) → IsRun payload es → ⊥)
    by (inl is) = inl (entries_in payload, is)
    by (inr none) = inr (λ es h. none (subst (IsRun payload) (sym (only_those payload es h)) h))
