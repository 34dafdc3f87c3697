-- The parts of a locator's sixty bytes.
use Rattle.std.proofs.Common.{◌≡◌, ◌<◌, ◌≤◌, ◌+◌, ◌*◌, ℕ, List, [], ◌++◌, All, length, take, drop, get_or, arith, refl, sym, ◌∙◌, ap, append_assoc, length-append, length-drop, drop-drop}
use Rattle.std.specs.List.{flat_map}
use Rattle.std.proofs.lemmas.List.{take_at, drop_at, drop_all, append-nil, take_all}
use Rattle.byteorder.specs.Endian.{big_bytes, big_number}
use Rattle.list_facts.proofs.Slices.{part-rest}
use Rattle.list_facts.proofs.Spelling.{flat_map-injective, length-flat_map_of}
use Rattle.scrub_frame.specs.Frame.{digest_size}
use Rattle.scrub_frame.specs.declared.locator.Locator.{Locator}
use Rattle.scrub_frame.specs.Locator.{locator_bytes, IsLocator}
use Rattle.scrub_frame.proofs.Bytes.{bytes-number_at, bytes-injective}

-- what was read from sixty bytes is spelled by them
pub fields_read : (x u d : List ℕ) (a b c : ℕ) → length x ≡ 60 → ((i : ℕ) → get_or x i 0 < 256) →
    a ≡ big_number 4 (take 4 (drop 0 x)) → b ≡ big_number 4 (take 4 (drop 4 x)) → c ≡ big_number 4 (take 4 (drop 8 x)) →
    u ≡ take 16 (drop 12 x) → d ≡ take digest_size (drop 28 x) →
    big_bytes 4 a ++ (big_bytes 4 b ++ (big_bytes 4 c ++ (u ++ d))) ≡ x
fields_read x u d a b c l are_bytes ha hb hc hu hd =
    joined (big_bytes 4 a) (big_bytes 4 b) (big_bytes 4 c) u d
    (bytes-number_at x 0 a are_bytes (omega (arith, l)) ha) (bytes-number_at x 4 b are_bytes (omega (arith, l)) hb)
    (bytes-number_at x 8 c are_bytes (omega (arith, l)) hc) hu
    (hd ∙ take_all 32 (drop 28 x) (omega (arith, length-drop 28 x, l)))
  where
    joined : (p q r s t : List ℕ) → p ≡ take 4 (drop 0 x) → q ≡ take 4 (drop 4 x) → r ≡ take 4 (drop 8 x) →
        s ≡ take 16 (drop 12 x) → t ≡ drop 28 x → p ++ (q ++ (r ++ (s ++ t))) ≡ x
    joined p q r s t hp hq hr hs ht =
        ap (λ z. p ++ (q ++ (r ++ z))) (ap (λ z. s ++ z) ht ∙ ap (λ z. z ++ drop 28 x) hs ∙ part-rest x 16 12)
        ∙ ap (λ z. p ++ (q ++ z)) (ap (λ z. z ++ drop 12 x) hr ∙ part-rest x 4 8)
        ∙ ap (λ z. p ++ z) (ap (λ z. z ++ drop 8 x) hq ∙ part-rest x 4 4)
        ∙ (ap (λ z. z ++ drop 4 x) hp ∙ part-rest x 4 0)

-- a part that is written right after those before it
written_behind : (before part behind old new : List ℕ) (m n : ℕ) → length before ≡ m → length part ≡ n →
    old ≡ before ++ behind →
    new ≡ take m old ++ (part ++ drop (m + length part) old) → new ≡ (before ++ part) ++ drop n behind
written_behind before part behind old new m n hm hn ho hw =
    hw ∙ ap (λ t. take m t ++ (part ++ drop (m + length part) t)) ho
    ∙ ap (λ t. t ++ (part ++ drop (m + length part) (before ++ behind))) (take_at before behind m hm)
    ∙ ap (λ k. before ++ (part ++ drop (m + k) (before ++ behind))) hn
    ∙ ap (λ t. before ++ (part ++ t))
    (sym (drop-drop n m (before ++ behind)) ∙ ap (drop n) (drop_at before behind m hm))
    ∙ sym (append_assoc before part (drop n behind))

-- five parts a to e, written in turn over sixty bytes z: s, t, u, v and w are the bytes after each
parts_written : (a b c d e z s t u v w : List ℕ) → length a ≡ 4 → length b ≡ 4 → length c ≡ 4 → length d ≡ 16 →
    length e ≡ digest_size → length z ≡ 60 →
    s ≡ take 0 z ++ (a ++ drop (0 + length a) z) → t ≡ take 4 s ++ (b ++ drop (4 + length b) s) →
    u ≡ take 8 t ++ (c ++ drop (8 + length c) t) →
    v ≡ take 12 u ++ (d ++ drop (12 + length d) u) → w ≡ take 28 v ++ (e ++ drop (28 + length e) v) →
    w ≡ a ++ (b ++ (c ++ (d ++ e)))
parts_written a b c d e z s t u v w la lb lc ld le lz hs ht hu hv hw =
    let s1 : s ≡ a ++ drop 4 z = written_behind [] a z z s 0 4 refl la refl hs in
    let t1 : t ≡ (a ++ b) ++ drop 4 (drop 4 z) = written_behind a b (drop 4 z) s t 4 4 la lb s1 ht in
    let lab : length (a ++ b) ≡ 8 = omega (arith, length-append a b, la, lb) in
    let u1 : u ≡ (a ++ b ++ c) ++ drop 4 (drop 4 (drop 4 z)) =
    written_behind (a ++ b) c (drop 4 (drop 4 z)) t u 8 4 lab lc t1 hu in
    let labc : length (a ++ b ++ c) ≡ 12 = omega (arith, length-append (a ++ b) c, lab, lc) in
    let v1 : v ≡ (a ++ b ++ c ++ d) ++ left =
    written_behind (a ++ b ++ c) d (drop 4 (drop 4 (drop 4 z))) u v 12 16 labc ld u1 hv in
    let labcd : length (a ++ b ++ c ++ d) ≡ 28 = omega (arith, length-append (a ++ b ++ c) d, labc, ld) in
    let room : length left ≤ 32 =
    omega (
      arith,
      length-drop 16 (drop 4 (drop 4 (drop 4 z))),
      length-drop 4 (drop 4 (drop 4 z)),
      length-drop 4 (drop 4 z),
      length-drop 4 z,
      lz,
    ) in
    written_behind (a ++ b ++ c ++ d) e left v w 28 32 labcd le v1 hw
    ∙ ap (λ q. a ++ b ++ c ++ d ++ e ++ q) (drop_all 32 left room)
    ∙ append-nil (a ++ b ++ c ++ d ++ e)
    ∙ (append_assoc (a ++ b ++ c) d e ∙ append_assoc (a ++ b) c (d ++ e) ∙ append_assoc a b (c ++ (d ++ e)))
  where
    -- what a to d leave of z
    left : List ℕ
    left = drop 16 (drop 4 (drop 4 (drop 4 z)))

-- so a locator's five fields, written in turn over sixty bytes, are the bytes of the locator
pub fields_written : (l : Locator) (a b c d z s t u v w : List ℕ) → a ≡ big_bytes 4 l.extent →
    b ≡ big_bytes 4 l.offset → c ≡ big_bytes 4 l.length → d ≡ l.uuid →
    length d ≡ 16 → length l.digest ≡ digest_size → length z ≡ 60 →
    s ≡ take 0 z ++ (a ++ drop (0 + length a) z) → t ≡ take 4 s ++ (b ++ drop (4 + length b) s) →
    u ≡ take 8 t ++ (c ++ drop (8 + length c) t) →
    v ≡ take 12 u ++ (d ++ drop (12 + length d) u) → w ≡ take 28 v ++ (l.digest ++ drop (28 + length l.digest) v) →
    w ≡ locator_bytes l
fields_written l a b c d z s t u v w ha hb hc hd ld le lz hs ht hu hv hw =
    parts_written a b c d l.digest z s t u v w (ap length ha) (ap length hb) (ap length hc) ld le lz hs ht hu hv hw
    ∙ replaced a b c d (big_bytes 4 l.extent) (big_bytes 4 l.offset) (big_bytes 4 l.length) l.uuid ha hb hc hd
  where
    replaced : (a b c d p q r y : List ℕ) → a ≡ p → b ≡ q → c ≡ r → d ≡ y →
        a ++ (b ++ (c ++ (d ++ l.digest))) ≡ p ++ (q ++ (r ++ (y ++ l.digest)))
    replaced a b c d p q r y ha hb hc hd = cc

-- a locator is sixty bytes
pub length-locator_bytes : (l : Locator) → IsLocator l → length (locator_bytes l) ≡ 60
length-locator_bytes l h = omega (arith, length-append l.uuid l.digest, h.uuid, h.digest)

-- so several are sixty bytes each
pub length-locators : (ls : List Locator) → All IsLocator ls → length (flat_map locator_bytes ls) ≡ 60 * length ls
length-locators ls h =
    length-flat_map_of locator_bytes 60 ls (λ k d hk. length-locator_bytes (get_or ls k d) (h k d hk))

-- no two locators have the same sixty bytes
pub one_locator_lem : (l m : Locator) → IsLocator l → IsLocator m → locator_bytes l ≡ locator_bytes m → l ≡ m
one_locator_lem l m hl hm same = equal l m
    (bytes-injective l.extent m.extent hl.extent hm.extent (ap (take 4) same))
    (bytes-injective l.offset m.offset hl.offset hm.offset (ap (λ t. take 4 (drop 4 t)) same))
    (bytes-injective l.length m.length hl.size hm.size (ap (λ t. take 4 (drop 8 t)) same))
    (sym (take_at l.uuid l.digest 16 hl.uuid) ∙ ap (λ t. take 16 (drop 12 t)) same ∙ take_at m.uuid m.digest 16 hm.uuid)
    (sym (drop_at l.uuid l.digest 16 hl.uuid) ∙ ap (λ t. drop 16 (drop 12 t)) same ∙ drop_at m.uuid m.digest 16 hm.uuid)
  where
    equal : (l m : Locator) → l.extent ≡ m.extent → l.offset ≡ m.offset → l.length ≡ m.length → l.uuid ≡ m.uuid →
        l.digest ≡ m.digest → l ≡ m
    equal l m a b c d e = λ i. record { extent = a i; offset = b i; length = c i; uuid = d i; digest = e i }

-- as many locators that are spelled alike are the same
pub same_locators : (ls ms : List Locator) → All IsLocator ls → All IsLocator ms → length ls ≡ length ms →
    flat_map locator_bytes ls ≡ flat_map locator_bytes ms → ls ≡ ms
same_locators ls ms hl hm count e =
    flat_map-injective locator_bytes IsLocator 60 ls ms length-locator_bytes one_locator_lem hl hm count e
