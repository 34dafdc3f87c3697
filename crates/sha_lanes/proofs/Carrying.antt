-- What a lane has hashed, as it goes on.
use Rattle.std.proofs.Common.{◌≡◌, ◌<◌, ◌≤◌, ◌+◌, ◌-◌, ◌*◌, ℕ, List, All, length, drop, take, slice_index, slice_index_or, ◌∙◌, ap, ap₂, sym, arith, inl, inr}
use Rattle.std.proofs.lemmas.Bool.{cases_lt}
use Rattle.std.proofs.lemmas.List.{drop-drop, get_or_default}
use Rattle.std.proofs.lemmas.List.Elements.{All-get_or}
use Rattle.sha2.specs.Sha256.{compress, hash_after, initial_hash_256}
use Rattle.sha2.proofs.Absorbing256.{hash_after_next}
use Rattle.sha_lanes.specs.declared.lanes.Lanes.{Lanes}
use Rattle.sha_lanes.specs.declared.lanes.Span.{Span}
use Rattle.sha_lanes.specs.Lanes.{block_at, lane, lane_count, Carries, AreLanes, IsWithin}

-- a lane that stays as it was
pub Carries_same : {bytes : List ℕ} {old new : Lanes} {l : ℕ} {span : Span}
    → slice_index new.place l ≡ slice_index old.place l → slice_index new.left l ≡ slice_index old.left l
    → lane l new.state ≡ lane l old.state → Carries bytes old l span → Carries bytes new l span
Carries_same place left state c = record { done = c.done; here = place ∙ c.here; rest = rw left c.rest; value = state ∙ c.value }

-- what a step does to lane l: it takes the next block, if it has one left
pub record IsStepped (bytes : List ℕ) (old new : Lanes) (l : ℕ) : Type 0 where
  pub left : slice_index new.left l ≡ slice_index old.left l - 1
  pub more : 0 < slice_index old.left l → (slice_index new.place l ≡ slice_index old.place l + 64)
      × (lane l new.state ≡ compress (lane l old.state) (block_at bytes (slice_index old.place l)))
  pub none : slice_index old.left l ≡ 0 → (slice_index new.place l ≡ slice_index old.place l) × (lane l new.state ≡ lane l old.state)

-- After a step a lane still carries its span, with one block more hashed if it had one left.
pub Carries_step : {bytes : List ℕ} {old new : Lanes} {l : ℕ} {span : Span} → IsStepped bytes old new l
    → Carries bytes old l span → Carries bytes new l span
Carries_step {bytes} {old} {new} {l} {span} s c =
    let was = c.rest in
    elim (cases_lt 0 (slice_index old.left l)) [
      | inl more ↦
          let m = s.more more in
          let here = c.here in
          let to = m.0 in
          let left = s.left in
          let block : block_at bytes (slice_index old.place l) ≡ take 64 (drop (c.done * 64) (drop span.start bytes)) =
          ap (take 64) (ap (λ n. drop n bytes) (let e : slice_index old.place l ≡ span.start + c.done * 64 = omega arith in e)
          ∙ sym (drop-drop (c.done * 64) span.start bytes)) in
          record {
            done = c.done + 1;
            here = omega arith;
            rest = omega arith;
            value = m.1 ∙ ap₂ compress c.value block ∙ sym (hash_after_next initial_hash_256 (drop span.start bytes) c.done);
          }
      | inr le ↦
          let none : slice_index old.left l ≡ 0 = omega arith in
          let n = s.none none in
          let left = s.left in
          Carries_same n.0 (omega arith) n.1 c
    ]

-- a lane that begins
pub Carries_begun : {bytes : List ℕ} {new : Lanes} {l : ℕ} {span : Span}
    → slice_index new.place l ≡ span.start → slice_index new.left l ≡ span.blocks
    → lane l new.state ≡ initial_hash_256 → Carries bytes new l span
unfolding hash_after
Carries_begun place left state = record { done = 0; here = omega arith; rest = omega arith; value = state }

-- a lane that has a block left has it within the bytes
pub block_within : {bytes : List ℕ} {spans : List Span} {lanes : Lanes} (l : ℕ) → AreLanes bytes spans lanes
    → All (IsWithin bytes) spans → l < lane_count → 0 < slice_index lanes.left l → slice_index lanes.place l + 64 ≤ length bytes
block_within {bytes} {spans} {lanes} l are within lt more = elim (cases_lt (slice_index lanes.index l) (length spans)) [
  | inl below ↦
      let d : Span = record { start = 0; blocks = 0; length = 0 } in
      let span : Span = slice_index_or spans (slice_index lanes.index l) d in
      let is : slice_index_or spans (slice_index lanes.index l) span ≡ span =
      get_or_default spans (slice_index lanes.index l) span d below in
      let c = are.carried l span lt below is in
      let w : IsWithin bytes span = All-get_or (IsWithin bytes) spans (slice_index lanes.index l) d below within in
      omega (arith, c.here, c.rest)
  | inr out ↦ let none = are.idle l lt out in absurd (omega arith)
]
