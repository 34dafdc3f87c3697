-- What is read from the bytes of a run, and that nothing else could be.
use Rattle.std.proofs.Common.{◌≡◌, ◌<◌, ◌≤◌, ◌-◌, ◌^◌, ℕ, List, ◌++◌, length, take, drop, get_or, arith, refl, sym, ◌∙◌, ap, length-append, take-append-drop}
use Rattle.std.specs.List.{flat_map}
use Rattle.std.proofs.lemmas.List.{drop_at, take_at}
use Rattle.byteorder.specs.Endian.{big_bytes, big_number}
use Rattle.sha2.specs.Sha256.{sha256}
use Rattle.sha2.proofs.Facts256.{length-sha256}
use Rattle.list_facts.proofs.Slices.{same_front_and_rest}
use Rattle.scrub_frame.proofs.Bytes.{bytes-injective, bytes-number_at}
use Rattle.scrub_run.specs.Entry.{EntryValue}
use Rattle.scrub_run.specs.Run.{run_magic, IsRun}
use Rattle.scrub_run.specs.steps.Parts.{entry_bytes, run_body}

-- the whole decides the part before the digest
pub same_body : (a b : List ℕ) → a ++ sha256 a ≡ b ++ sha256 b → a ≡ b
same_body a b e = (same_front_and_rest a b (sha256 a) (sha256 b) (omega (arith, ap length e, length-append a (sha256 a), length-append b (sha256 b), length-sha256 a, length-sha256 b)) e).0

-- a head decides the count, and what follows it
pub same_head : (n m : ℕ) (x y : List ℕ) → run_magic ++ (big_bytes 4 n ++ x) ≡ run_magic ++ (big_bytes 4 m ++ y) → (big_bytes 4 n ≡ big_bytes 4 m) × (x ≡ y)
same_head n m x y e = same_front_and_rest (big_bytes 4 n) (big_bytes 4 m) x y refl (ap (drop 4) e)

-- Bytes that are a text followed by its digest are cut into these two 32 bytes before their end.
pub body_cut : (x s a d : List ℕ) → a ≡ take (length x - 32) x → d ≡ drop (length x - 32) x → x ≡ s ++ sha256 s → (a ≡ s) × (d ≡ sha256 s)
body_cut x s a d ha hd e = (
  ha ∙ ap (take (length x - 32)) e ∙ take_at s (sha256 s) (length x - 32) (sym before),
  hd ∙ ap (drop (length x - 32)) e ∙ drop_at s (sha256 s) (length x - 32) (sym before),
)
  where
    before : length x - 32 ≡ length s
    before = omega (arith, ap length e, length-append s (sha256 s), length-sha256 s)

-- fewer bytes than a digest are no run
pub no_body : (x s : List ℕ) → length x < 32 → x ≡ s ++ sha256 s → ⊥
no_body x s short e = omega (arith, short, ap length e, length-append s (sha256 s), length-sha256 s)

-- the head that was read: the first four bytes, the number in the next four, and the rest
pub head_read : (x magic after count rest : List ℕ) (n : ℕ) → ((i : ℕ) → get_or x i 0 < 256) →
    magic ≡ take 4 x → after ≡ drop 4 x → count ≡ take 4 after → rest ≡ drop 4 after → 8 ≤ length x →
    magic ≡ run_magic → n ≡ big_number 4 count → x ≡ run_magic ++ (big_bytes 4 n ++ rest)
head_read x magic after count rest n bytes hm ha hc hr long is hn =
    sym (take-append-drop 4 x) ∙ ap (λ t. t ++ drop 4 x) (sym hm ∙ is)
    ∙ ap (λ t. run_magic ++ t) (sym (take-append-drop 4 (drop 4 x)) ∙ ap (λ t. t ++ drop 4 (drop 4 x)) number ∙ ap (λ t. big_bytes 4 n ++ t) (sym (rw ha at hr)))
  where
    number : take 4 (drop 4 x) ≡ big_bytes 4 n
    number = sym (bytes-number_at x 4 n bytes long (hn ∙ ap (big_number 4) (rw ha at hc)))

-- the part of a run before its digest
pub body_of_run : (payload body : List ℕ) (entries : List EntryValue) → payload ≡ body ++ sha256 body → IsRun payload entries → body ≡ run_body entries
body_of_run payload body entries e h = same_body body (run_body entries) (sym e ∙ h.spelled)

-- a run has as many entries as its head claims, and they follow the head
pub entries_of_run : (payload body rest : List ℕ) (entries : List EntryValue) (n : ℕ) → payload ≡ body ++ sha256 body →
    body ≡ run_magic ++ (big_bytes 4 n ++ rest) → n < 2 ^ 32 → IsRun payload entries →
    (length entries ≡ n) × (rest ≡ flat_map entry_bytes entries)
entries_of_run payload body rest entries n e head small h = (
  bytes-injective (length entries) n h.entries_of_run.count small cut.0,
  sym cut.1,
)
  where
    cut : (big_bytes 4 (length entries) ≡ big_bytes 4 n) × (flat_map entry_bytes entries ≡ rest)
    cut = same_head (length entries) n (flat_map entry_bytes entries) rest (sym (body_of_run payload body entries e h) ∙ head)
