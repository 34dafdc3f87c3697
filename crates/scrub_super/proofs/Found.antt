-- A record, put together from what was read of it.
use Rattle.std.proofs.Common.{◌≡◌, ◌<◌, ◌≤◌, ◌+◌, ◌*◌, ◌-◌, ◌^◌, ℕ, List, [], length, take, drop, get_or, arith, refl, sym, subst, ◌∙◌, ap, length-drop, All, Option, Some, None, IfSome, option_map}
use Rattle.std.specs.List.{flat_map}
use Rattle.std.specs.Option.{option_map_or, unwrap_or}
use Rattle.std.proofs.lemmas.List.{take_all, length-take-le, nil_from_length}
use Rattle.std.proofs.lemmas.Grind.{same_number_lists}
use Rattle.byteorder.specs.Endian.{big_bytes, big_number}
use Rattle.byteorder.specs.Numbers.{big_from-lt}
use Rattle.sha2.specs.Sha256.{sha256}
use Rattle.list_facts.proofs.Spelling.{AreBytes, AreBytes-drop, AreBytes-take, flat_map-read_parts, get_or-read_parts, length-read_parts, read_parts}
use Rattle.scrub_disk.specs.declared.geometry.Geometry.{Geometry}
use Rattle.scrub_frame.specs.declared.locator.Locator.{Locator}
use Rattle.scrub_frame.specs.Locator.{locator_bytes, IsLocator}
use Rattle.scrub_frame.proofs.Bytes.{bytes-number, number-take}
use Rattle.scrub_frame.proofs.Locators.{fields_read, same_locators}
use Rattle.scrub_frame.specs.Frame.{digest_size}
use Rattle.scrub_super.specs.declared.kind.RecordKind.TheVariants.{Ssb1, Ssb2}
use Rattle.scrub_super.specs.Pages.{kind_of}
use Rattle.scrub_super.specs.Contents.{Contents, retired_in}
use Rattle.scrub_super.specs.Planned.{AreRetired}
use Rattle.scrub_super.specs.Record.{BeginsWithRecord}
use Rattle.scrub_super.specs.steps.Limits.{ArePointers}
use Rattle.scrub_super.specs.steps.RecordRead.{record_head_size, retired_count, runs_place, digest_place, pointer_bytes, retired_bytes, run_locator_bytes, kind_by, IsHead, BeginsWithSome, number_in, SpellExtents}
use Rattle.scrub_super.proofs.BytesInParts.{four_parts}
use Rattle.scrub_super.proofs.Listed.{AreSmall, count_in, pointers_in, small_pointers, small_listed, same_numbers, same_listed}
use Rattle.scrub_super.proofs.RecordParts.{body_behind, AreRecordParts, record_of_parts, is_head, known_parts}

-- ---- numbers and locators, by the bytes that spell them

number_spelled : (x : List ℕ) → length x ≡ 4 → AreBytes x → big_bytes 4 (big_number 4 x) ≡ x
number_spelled x l h = bytes-number x (omega arith) h ∙ take_all 4 x (omega arith)

abbrev pub locator_of : List ℕ → Locator
locator_of x = record {
  extent = big_number 4 (take 4 (drop 0 x));
  offset = big_number 4 (take 4 (drop 4 x));
  length = big_number 4 (take 4 (drop 8 x));
  uuid = take 16 (drop 12 x);
  digest = take digest_size (drop 28 x);
}

locator_spelled : (x : List ℕ) → length x ≡ 60 → AreBytes x → locator_bytes (locator_of x) ≡ x
locator_spelled x l h = fields_read x _ _ _ _ _ l h refl refl refl refl refl

-- a part of the bytes
module _ (x : List ℕ) (m n : ℕ) (fits : m + n ≤ length x) where
  length_part : length (take n (drop m x)) ≡ n
  length_part = length-take-le n (drop m x) (omega (arith, length-drop m x))

  bytes_part : AreBytes x → AreBytes (take n (drop m x))
  bytes_part h = AreBytes-take n (drop m x) (omega (arith, length-drop m x)) (AreBytes-drop m x h)

locator_fits : (x : List ℕ) → length x ≡ 60 → AreBytes x → IsLocator (locator_of x)
locator_fits x l h = record {
  extent = small 0 (omega arith);
  offset = small 4 (omega arith);
  size = small 8 (omega arith);
  uuid = length_part x 12 16 (omega arith);
  digest = length_part x 28 digest_size (omega arith);
}
  where
    small : (m : ℕ) → m + 4 ≤ length x → big_number 4 (take 4 (drop m x)) < 2 ^ 32
    small m fits = big_from-lt 0 4 (take 4 (drop m x)) (bytes_part x m 4 fits h)

-- numbers that were read from bytes one after another are spelled by these bytes
pub numbers_spelled : (x ws : List ℕ) (n : ℕ) → length x ≡ 4 * n → length ws ≡ n → AreBytes x →
    ((k : ℕ) → k < length ws → get_or ws k 0 ≡ number_in x k) → flat_map (big_bytes 4) ws ≡ x
numbers_spelled x ws n l count h each =
    ap (flat_map (big_bytes 4))
    (same_number_lists ws (read_parts (big_number 4) 4 n x) (count ∙ sym (length-read_parts (big_number 4) 4 n x))
    (λ k hk. each k hk ∙ sym (number-take (drop (4 * k) x)) ∙ sym (get_or-read_parts (big_number 4) 4 n k 0 x (omega arith))))
    ∙ flat_map-read_parts (big_bytes 4) (big_number 4) 4 n x number_spelled l h

-- ---- lists of numbers and of locators

-- the n numbers that bytes spell
abbrev numbers : ℕ → List ℕ → List ℕ
numbers n part = read_parts (big_number 4) 4 n part

module _ (n : ℕ) (part : List ℕ) where
  length-numbers : length (numbers n part) ≡ n
  length-numbers = length-read_parts (big_number 4) 4 n part

  get_or-numbers : (k d : ℕ) → k < n → get_or (numbers n part) k d ≡ number_in part k
  get_or-numbers k d here = get_or-read_parts (big_number 4) 4 n k d part here ∙ number-take (drop (4 * k) part)

-- each of the pointers that bytes spell is within the limit
pointers_fit : (g : Geometry) (part : List ℕ) (most : ℕ) → most ≡ g.page * g.pages → length part ≡ 4 * (g.extents - 1) →
    ((k : ℕ) → 4 * k + 4 ≤ length part → number_in part k ≤ most) → ArePointers g (numbers (g.extents - 1) part)
pointers_fit g part most limit l all = record {
  count = omega (arith, length-numbers (g.extents - 1) part, g.extents_least);
  within = λ k d hk.
      let here : k < g.extents - 1 = omega (arith, length-numbers (g.extents - 1) part) in
      rw (get_or-numbers _ part k d here, ← limit) (all k (omega arith));
}

-- the retired extents that bytes spell
extents_fit : (e t : ℕ) (part : List ℕ) → length part ≡ 4 * t → SpellExtents e part → AreRetired e (numbers t part)
extents_fit e t part l h = record {
  rising = λ k hk.
      let here : k + 1 < t = omega (arith, length-numbers t part) in
      rw (get_or-numbers t part k 0 (omega arith), get_or-numbers t part (k + 1) 0 here) (h.rising k (omega arith));
  from_one = λ k d hk.
      let here : k < t = omega (arith, length-numbers t part) in
      rw (get_or-numbers t part k d here) (h.from_one k (omega arith));
  below = λ k d hk.
      let here : k < t = omega (arith, length-numbers t part) in
      rw (get_or-numbers t part k d here) (h.below k (omega arith));
}

locators_fit : (r : ℕ) (part : List ℕ) → length part ≡ 60 * r → AreBytes part →
    All IsLocator (read_parts locator_of 60 r part)
locators_fit r part l bytes k d hk =
    let here : k < r = omega (arith, length-read_parts locator_of 60 r part) in
    rw (get_or-read_parts locator_of 60 r k d part here)
    (locator_fits _ (length_part part (60 * k) 60 (omega arith)) (bytes_part part (60 * k) 60 (omega arith) bytes))

-- the list that a head announces, as bytes spell it
abbrev pub listed_values : Option ℕ → List ℕ → Option (List ℕ)
listed_values k part = option_map (λ t. numbers t part) k

count_listed : (k : Option ℕ) (part : List ℕ) → option_map length (listed_values k part) ≡ k
count_listed None part = refl
count_listed (Some t) part = ap Some (length-numbers t part)

listed_fit : (e : ℕ) (k : Option ℕ) (part : List ℕ) → length part ≡ 4 * retired_count k → SpellExtents e part →
    IfSome (listed_values k part) (AreRetired e)
listed_fit e None part l h = tt
listed_fit e (Some t) part l h = extents_fit e t part l h

listed_spelled : (k : Option ℕ) (part : List ℕ) → length part ≡ 4 * retired_count k → AreBytes part →
    flat_map (big_bytes 4) (unwrap_or (listed_values k part) []) ≡ part
listed_spelled None part l h = sym (nil_from_length part (omega (arith, l)))
listed_spelled (Some t) part l h = flat_map-read_parts (big_bytes 4) (big_number 4) 4 t part number_spelled l h

-- ---- the record

-- there is a record if there is a head, each pointer is within the limit, the retired extents rise, and the digest is right
pub record_found : {g : Geometry} (x : List ℕ) {n r : ℕ} {k : Option ℕ} {size most e : ℕ} {pointer_part retired_part body rest : List ℕ} →
    AreBytes x → IsHead g (take (record_head_size k) x) n r k → size ≡ digest_place g r k → size + digest_size ≤ length x →
    pointer_part ≡ pointer_bytes g k x → retired_part ≡ retired_bytes g k x → body ≡ take size x → rest ≡ drop size x →
    most ≡ g.page * g.pages → ((j : ℕ) → 4 * j + 4 ≤ length pointer_part → number_in pointer_part j ≤ most) →
    e ≡ g.extents → SpellExtents e retired_part →
    take digest_size rest ≡ sha256 body → BeginsWithSome g x n r k
record_found {g} x {n} {r} {k} bytes head at enough hps hts hbody hrest limit within count extents digest = record {
  contents = c;
  begins =
      record_of_parts
      (record {
        generation = head.fits;
        pointer_count = pointers.count;
        pointers_within = pointers.within;
        retired = retired;
        run_count = omega (arith, head.few, length-read_parts locator_of 60 r rs);
        each_run = runs;
      })
      parts;
  generation = refl;
  count = length-read_parts locator_of 60 r rs;
  listed = count_listed k ts;
}
  where
    ps : List ℕ
    ps = pointer_bytes g k x

    ts : List ℕ
    ts = retired_bytes g k x

    rs : List ℕ
    rs = run_locator_bytes g r k x

    c : Contents
    c = record {
      generation = n;
      pointers = numbers (g.extents - 1) ps;
      retired = listed_values k ts;
      runs = read_parts locator_of 60 r rs;
    }

    room : digest_place g r k + digest_size ≤ length x
    room = omega (arith, at)

    p_long : length ps ≡ 4 * (g.extents - 1)
    p_long = length_part x _ _ (omega (arith, room))

    t_long : length ts ≡ 4 * retired_count k
    t_long = length_part x _ _ (omega (arith, room))

    r_long : length rs ≡ 60 * r
    r_long = length_part x _ _ (omega (arith, room))

    r_bytes : AreBytes rs
    r_bytes = bytes_part x (runs_place g k) (60 * r) (omega (arith, room)) bytes

    pointers : ArePointers g c.pointers
    pointers = pointers_fit g ps _ limit p_long (rw hps at within)

    retired : IfSome c.retired (AreRetired g.extents)
    retired = listed_fit _ k ts t_long (rw (hts, count) at extents)

    runs : All IsLocator c.runs
    runs = locators_fit r rs r_long r_bytes

    hp : flat_map (big_bytes 4) c.pointers ≡ ps
    hp =
        flat_map-read_parts (big_bytes 4) (big_number 4) 4 _ ps number_spelled p_long
        (bytes_part x _ _ (omega (arith, room)) bytes)

    ht : flat_map (big_bytes 4) (retired_in c) ≡ ts
    ht = listed_spelled k ts t_long (bytes_part x _ _ (omega (arith, room)) bytes)

    hr : flat_map locator_bytes c.runs ≡ rs
    hr = flat_map-read_parts locator_bytes locator_of 60 r rs locator_spelled r_long r_bytes

    whole : body_behind g n r k c ≡ take (digest_place g r k) x
    whole =
        rw (head.spelled, ← hp, ← ht, ← hr) at
        (four_parts x (record_head_size k) (4 * (g.extents - 1)) (4 * retired_count k) (60 * r))

    parts : AreRecordParts g x n (length c.runs) (count_in c) c
    parts = rw (count_listed k ts, length-read_parts locator_of 60 r rs) (record {
      enough = room;
      head_is = head.spelled;
      pointers_are = sym hp;
      retired_are = sym ht;
      runs_are = sym hr;
      digest_is = (rw (hrest, hbody, at) at digest) ∙ ap sha256 (sym whole);
    })

-- a record is of the second kind if it has a number of retired extents
pub kind_counted : (o : Option (List ℕ)) → kind_by (option_map length o) ≡ option_map_or (λ _. Ssb2) o Ssb1
kind_counted None = refl
kind_counted (Some xs) = refl

pub known_kind : {g : Geometry} {x : List ℕ} {n r : ℕ} {k : Option ℕ} (some : BeginsWithSome g x n r k) →
    kind_by k ≡ kind_of some.contents
known_kind some = rw (← some.listed) (kind_counted some.contents.retired)

-- what was read from the parts of a record are its contents
pub contents_read : {g : Geometry} {x ws : List ℕ} {o : Option (List ℕ)} {rs : List Locator} {n r : ℕ} {k : Option ℕ} →
    BeginsWithSome g x n r k → length ws ≡ g.extents - 1 → AreSmall ws → flat_map (big_bytes 4) ws ≡ pointer_bytes g k x →
    option_map length o ≡ k → IfSome o AreSmall → flat_map (big_bytes 4) (unwrap_or o []) ≡ retired_bytes g k x →
    length rs ≡ r → All IsLocator rs → flat_map locator_bytes rs ≡ run_locator_bytes g r k x →
    BeginsWithRecord g x (record { generation = n; pointers = ws; retired = o; runs = rs })
contents_read {g} {x} {ws} {o} {rs} some lw fits hw lo small ho lr are hr =
    let b = some.begins in
    let parts = known_parts (rw (some.generation, some.count, some.listed) at (is_head b)) b in
    let pointers : some.contents.pointers ≡ ws =
    same_numbers _ _ (small_pointers (pointers_in b.contents)) fits (omega (arith, b.contents.pointer_count, lw))
    (sym parts.pointers_are ∙ sym hw) in
    let retired : some.contents.retired ≡ o =
    same_listed _ _ (some.listed ∙ sym lo) (small_listed g _ b.contents.retired) small
    (sym parts.retired_are ∙ sym ho) in
    let runs : some.contents.runs ≡ rs =
    same_locators _ _ b.contents.each_run are (some.count ∙ sym lr) (sym parts.runs_are ∙ sym hr) in
    subst (BeginsWithRecord g x)
    (λ i. record { generation = some.generation i; pointers = pointers i; retired = retired i; runs = runs i }) b
