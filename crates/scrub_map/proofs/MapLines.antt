-- What one more line says of the map.
use Rattle.std.proofs.Common.{◌≡◌, ◌<◌, ◌≤◌, ◌+◌, ℕ, Bool, true, false, not, List, [], ◌∷◌, ◌++◌, length, map, arith, refl, sym, ◌∙◌, ap, subst, inl, inr, append_assoc, length-append, Result, Ok, Err, IfOk}
use Rattle.std.specs.Prelude.{IfErr}
use Rattle.std.specs.Prelude.{filter}
use Rattle.std.proofs.lemmas.List.Elements.{filter-append}
use Rattle.std.proofs.lemmas.List.{append-nil, map-append}
use Rattle.std.proofs.lemmas.Bool.{false≢true}
use Rattle.scrub_map.specs.declared.block.MapBlock.{MapBlock}
use Rattle.scrub_map.specs.Fields.{line_fields}
use Rattle.scrub_map.specs.Lines.{IsBlock, IsState, map_lines, says_nothing}
use Rattle.scrub_map.specs.Map.{AreBlocksFrom, BeginsMap, IsFirstBadLine, IsMap, IsMapOf, statements}
use Rattle.scrub_map.specs.Number.{IsNumber}
use Rattle.scrub_map.specs.steps.Reading.{AreSaid, HasReadLines, ReadsMore, end_from}
use Rattle.scrub_map.specs.Fault.{IfBadLine}
use Rattle.scrub_map.specs.declared.reading.MapFault.{MapFault}
use Rattle.scrub_map.specs.declared.reading.MapFault.TheVariants.{OutOfMemory, Line}
use Rattle.scrub_map.specs.declared.map.RescueMap.{RescueMap}
use Rattle.scrub_map.specs.declared.reading.Reading.{Reading}
use Rattle.scrub_map.specs.MissingBytes.{KeepsBlocks}

-- the statements of lines that are joined
pub statements-append : (lines more : List (List ℕ)) → statements (lines ++ more) ≡ statements lines ++ statements more
unfolding statements
statements-append lines more =
    ap (filter (λ fields. not (says_nothing fields))) (map-append line_fields lines more)
    ∙ filter-append (λ fields. not (says_nothing fields)) (map line_fields lines) (map line_fields more)

-- a line that says nothing, and one that says something
one_silent : (line : List ℕ) (fields : List (List ℕ)) → line_fields line ≡ fields → says_nothing fields ≡ true →
    statements (line ∷ []) ≡ []
unfolding statements
one_silent line fields e nothing = rw (e, nothing) refl

one_said : (line : List ℕ) (fields : List (List ℕ)) → line_fields line ≡ fields → says_nothing fields ≡ false →
    statements (line ∷ []) ≡ fields ∷ []
unfolding statements
one_said line fields e some = rw (e, some) refl

pub silent_more : (lines : List (List ℕ)) (line : List ℕ) (fields : List (List ℕ)) → line_fields line ≡ fields →
    says_nothing fields ≡ true → statements (lines ++ line ∷ []) ≡ statements lines
silent_more lines line fields e nothing =
    statements-append lines (line ∷ []) ∙ ap (λ s. statements lines ++ s) (one_silent line fields e nothing)
    ∙ append-nil (statements lines)

pub said_more : (lines : List (List ℕ)) (line : List ℕ) (fields : List (List ℕ)) → line_fields line ≡ fields →
    says_nothing fields ≡ false → statements (lines ++ line ∷ []) ≡ statements lines ++ fields ∷ []
said_more lines line fields e some =
    statements-append lines (line ∷ []) ∙ ap (λ s. statements lines ++ s) (one_said line fields e some)

-- a text is one number at most
same_number : (text : List ℕ) (m n : ℕ) → IsNumber text m → IsNumber text n → m ≡ n
same_number text m n first second = sym first.value ∙ second.value

-- a line is one block at most
pub same_block : (fields : List (List ℕ)) (a b : MapBlock) → IsBlock fields a → IsBlock fields b → a ≡ b
same_block [] a b first second = absurd first
same_block (x ∷ []) a b first second = absurd first
same_block (x ∷ y ∷ []) a b first second = absurd first
same_block (x ∷ y ∷ z ∷ []) a b first second =
    let position = same_number x a.position b.position first.0 second.0 in
    let size = same_number y a.size b.size first.1 second.1 in
    let rescued : a.is_rescued ≡ b.is_rescued = first.4 ∙ sym second.4 in
    ap (λ p. record { position = p; size = a.size; is_rescued = a.is_rescued }) position
    ∙ ap (λ s. record { position = b.position; size = s; is_rescued = a.is_rescued }) size
    ∙ ap (λ r. record { position = b.position; size = b.size; is_rescued = r }) rescued
same_block (x ∷ y ∷ z ∷ w ∷ more) a b first second = absurd first

-- statements are one list of blocks at most
pub same_blocks : (from : ℕ) (said : List (List (List ℕ))) (a b : List MapBlock) → AreBlocksFrom from said a →
    AreBlocksFrom from said b → a ≡ b
same_blocks from [] [] [] first second = refl
same_blocks from [] [] (y ∷ b) first second = absurd second
same_blocks from [] (x ∷ a) b first second = absurd first
same_blocks from (fields ∷ said) [] b first second = absurd first
same_blocks from (fields ∷ said) (x ∷ a) [] first second = absurd second
same_blocks from (fields ∷ said) (x ∷ a) (y ∷ b) first second =
    let same : x ≡ y = same_block fields x y first.0 second.0 in
    let rest : AreBlocksFrom (x.position + x.size) said b = rw same second.2 in
    ap (λ z. z ∷ a) same ∙ ap (λ c. y ∷ c) (same_blocks (x.position + x.size) said a b first.2 rest)

-- one more block
blocks_push : (from : ℕ) (said : List (List (List ℕ))) (blocks : List MapBlock) (fields : List (List ℕ)) (block : MapBlock) →
    AreBlocksFrom from said blocks → IsBlock fields block → end_from from blocks ≤ block.position →
    AreBlocksFrom from (said ++ fields ∷ []) (blocks ++ block ∷ [])
blocks_push from [] [] fields block are is behind = (is, behind, tt)
blocks_push from [] (x ∷ blocks) fields block are is behind = absurd are
blocks_push from (s ∷ said) [] fields block are is behind = absurd are
blocks_push from (s ∷ said) (x ∷ blocks) fields block are is behind =
    (are.0, are.1, blocks_push (x.position + x.size) said blocks fields block are.2 is behind)

-- and the blocks before it
record Splits (from : ℕ) (said : List (List (List ℕ))) (fields : List (List ℕ)) : Type 0 where
  blocks : List MapBlock
  block : MapBlock
  are : AreBlocksFrom from said blocks
  is : IsBlock fields block
  behind : end_from from blocks ≤ block.position

blocks_split : (from : ℕ) (said : List (List (List ℕ))) (fields : List (List ℕ)) (all : List MapBlock) →
    AreBlocksFrom from (said ++ fields ∷ []) all → Splits from said fields
blocks_split from [] fields [] are = absurd are
blocks_split from [] fields (x ∷ []) are = record { blocks = []; block = x; are = tt; is = are.0; behind = are.1 }
blocks_split from [] fields (x ∷ y ∷ more) are = absurd are.2
blocks_split from (s ∷ said) fields [] are = absurd are
blocks_split from (s ∷ said) fields (x ∷ more) are =
    let rest : Splits (x.position + x.size) said fields = blocks_split (x.position + x.size) said fields more are.2 in
    record { blocks = x ∷ rest.blocks; block = rest.block; are = (are.0, are.1, rest.are); is = rest.is; behind = rest.behind }

pub end_from-push : (from : ℕ) (blocks : List MapBlock) (block : MapBlock) →
    end_from from (blocks ++ block ∷ []) ≡ block.position + block.size
end_from-push from [] block = refl
end_from-push from (x ∷ blocks) block = end_from-push (x.position + x.size) blocks block

-- a map with one more block
pub map_push : (said : List (List (List ℕ))) (blocks : List MapBlock) (fields : List (List ℕ)) (block : MapBlock) →
    IsMapOf said blocks → IsBlock fields block → end_from 0 blocks ≤ block.position →
    IsMapOf (said ++ fields ∷ []) (blocks ++ block ∷ [])
map_push [] blocks fields block is one behind = absurd is
map_push (state ∷ said) blocks fields block is one behind =
    (is.0, blocks_push 0 said blocks fields block is.1 one behind)

-- after a map whose last block ends at `next`, either a block from there on follows, or a rule is broken
pub map_breaks : (said : List (List (List ℕ))) (blocks : List MapBlock) (fields : List (List ℕ)) (next : ℕ) →
    IsMapOf said blocks → next ≡ end_from 0 blocks →
    ((block : MapBlock) → IsBlock fields block → next ≤ block.position → ⊥) → (all : List MapBlock) →
    ¬ IsMapOf (said ++ fields ∷ []) all
map_breaks [] blocks fields next is e none all whole = absurd is
map_breaks (state ∷ said) blocks fields next is e none all whole =
    let cut : Splits 0 said fields = blocks_split 0 said fields all whole.1 in
    let same : cut.blocks ≡ blocks = same_blocks 0 said cut.blocks blocks cut.are is.1 in
    none cut.block cut.is (rw (ap (end_from 0) same ∙ sym e) at cut.behind)

-- one more line, which says nothing
pub read_silent : (lines : List (List ℕ)) (line : List ℕ) (fields : List (List ℕ)) (r : Reading) →
    line_fields line ≡ fields → says_nothing fields ≡ true → HasReadLines lines r → HasReadLines (lines ++ line ∷ []) r
read_silent lines line fields r e nothing read = record {
  blocks = read.blocks;
  said = rw (silent_more lines line fields e nothing) read.said;
  keeps = read.keeps;
  end = read.end;
}

-- the state
first_said : (has : Bool) (said : List (List (List ℕ))) (blocks : List MapBlock) → has ≡ false →
    AreSaid has said blocks → (said ≡ []) × (blocks ≡ [])
first_said true said blocks e are = absurd (false≢true (sym e))
first_said false said blocks e are = are

map_said : (has : Bool) (said : List (List (List ℕ))) (blocks : List MapBlock) → has ≡ true → AreSaid has said blocks →
    IsMapOf said blocks
map_said true said blocks e are = are
map_said false said blocks e are = absurd (false≢true e)

-- If the first line that says something is a state, the lines with it are read, and only `has_state` changes.
pub read_state : (lines : List (List ℕ)) (line : List ℕ) (fields : List (List ℕ)) (old new : Reading) →
    line_fields line ≡ fields → says_nothing fields ≡ false → old.has_state ≡ false → IsState fields →
    new ≡ record old { has_state = true } → HasReadLines lines old → HasReadLines (lines ++ line ∷ []) new
read_state lines line fields old new e some first state after read =
    let none = first_said old.has_state (statements lines) read.blocks first read.said in
    let said : statements (lines ++ line ∷ []) ≡ fields ∷ [] =
    said_more lines line fields e some ∙ ap (λ s. s ++ fields ∷ []) none.0 in
    subst (HasReadLines (lines ++ line ∷ [])) (sym after) (record {
      blocks = read.blocks;
      said = rw said (state, subst (AreBlocksFrom 0 []) (sym none.1) tt);
      keeps = read.keeps;
      end = read.end;
    })

-- If the first line that says something isn't a state, no map begins with the lines.
pub no_state : (lines : List (List ℕ)) (line : List ℕ) (fields : List (List ℕ)) (old : Reading) →
    line_fields line ≡ fields → says_nothing fields ≡ false → old.has_state ≡ false → (¬ IsState fields) →
    HasReadLines lines old → ¬ BeginsMap (lines ++ line ∷ [])
no_state lines line fields old e some first none read begins =
    let empty = first_said old.has_state (statements lines) read.blocks first read.said in
    let said : statements (lines ++ line ∷ []) ≡ fields ∷ [] =
    said_more lines line fields e some ∙ ap (λ s. s ++ fields ∷ []) empty.0 in
    elim begins [
      | inl nothing ↦ cons_not_nil fields (sym said ∙ nothing)
      | inr is ↦ let whole : IsMapOf (fields ∷ []) is.0 = rw said at is.1 in none whole.0
    ]
  where
    cons_not_nil : (x : List (List ℕ)) → x ∷ [] ≡ [] → ⊥
    cons_not_nil x same = cc

-- a block
pub read_block : (lines : List (List ℕ)) (line : List ℕ) (fields : List (List ℕ)) (block : MapBlock) (old new : Reading) →
    line_fields line ≡ fields → says_nothing fields ≡ false → old.has_state ≡ true →
    IsBlock fields block → old.next ≤ block.position → new.has_state ≡ true → new.next ≡ block.position + block.size →
    ((blocks : List MapBlock) → KeepsBlocks old.map blocks → KeepsBlocks new.map (blocks ++ block ∷ [])) →
    HasReadLines lines old → HasReadLines (lines ++ line ∷ []) new
read_block lines line fields block old new e some has is behind still next keeps read =
    let before : IsMapOf (statements lines) read.blocks =
    map_said old.has_state (statements lines) read.blocks has read.said in
    let after : IsMapOf (statements (lines ++ line ∷ [])) (read.blocks ++ block ∷ []) =
    rw (said_more lines line fields e some)
    (map_push (statements lines) read.blocks fields block before is (omega (arith, read.end, behind))) in
    record {
      blocks = read.blocks ++ block ∷ [];
      said = rw still after;
      keeps = keeps read.blocks read.keeps;
      end = next ∙ sym (end_from-push 0 read.blocks block);
    }

-- If a line after the state says something and isn't a block from `old.next` on, no map begins so.
pub no_block : (lines : List (List ℕ)) (line : List ℕ) (fields : List (List ℕ)) (old : Reading) →
    line_fields line ≡ fields → says_nothing fields ≡ false → old.has_state ≡ true →
    ((block : MapBlock) → IsBlock fields block → old.next ≤ block.position → ⊥) → HasReadLines lines old →
    ¬ BeginsMap (lines ++ line ∷ [])
no_block lines line fields old e some has none read begins =
    let before : IsMapOf (statements lines) read.blocks =
    map_said old.has_state (statements lines) read.blocks has read.said in
    let said = said_more lines line fields e some in
    elim begins [
      | inl nothing ↦ push_not_nil (statements lines) fields (sym said ∙ nothing)
      | inr is ↦ map_breaks (statements lines) read.blocks fields old.next before read.end none is.0 (rw said at is.1)
    ]
  where
    push_not_nil : (xs : List (List (List ℕ))) (x : List (List ℕ)) → xs ++ x ∷ [] ≡ [] → ⊥
    push_not_nil [] x same = cc
    push_not_nil (y ∷ xs) x same = cc

-- a line with a block that begins before `next` isn't a block from there on
pub other_block : (fields : List (List ℕ)) (block : MapBlock) (next : ℕ) → IsBlock fields block →
    block.position < next → (other : MapBlock) → IsBlock fields other → next ≤ other.position → ⊥
other_block fields block next is before other same behind =
    let position : block.position ≡ other.position =
    ap (λ (b : MapBlock). b.position) (same_block fields block other is same) in
    omega (arith, position, before, behind)

-- before the first line
pub read_none : (map : RescueMap) → KeepsBlocks map [] →
    HasReadLines [] (record { has_state = false; next = 0; map = map })
unfolding statements
read_none map keeps = record { blocks = []; said = (refl, refl); keeps = keeps; end = refl }

-- the lines of a text that were read, and those that are left
pub record HasReadUpTo (text rest : List ℕ) (number : ℕ) (r : Reading) : Type 0 where
  pub lines : List (List ℕ)
  pub parts : map_lines text ≡ lines ++ map_lines rest
  pub place : number ≡ length lines + 1
  pub room : number + length rest ≤ length text + 1
  pub read : HasReadLines lines r

-- Once the next line is read, one more line of the text is read, and what is left is what follows it.
pub up_to_more : (text rest line behind : List ℕ) (number : ℕ) (old new : Reading) →
    map_lines rest ≡ line ∷ map_lines behind → length behind < length rest →
    HasReadUpTo text rest number old → ReadsMore (line_fields line) old new → HasReadUpTo text behind (number + 1) new
up_to_more text rest line behind number old new cut shorter before more = record {
  lines = before.lines ++ line ∷ [];
  parts =
      before.parts ∙ ap (λ l. before.lines ++ l) cut ∙ sym (append_assoc before.lines (line ∷ []) (map_lines behind));
  place = omega (arith, before.place, length-append before.lines (line ∷ []));
  room = omega (arith, before.room, shorter);
  read = more before.lines line refl before.read;
}

-- all lines were read
all_parts : (text rest : List ℕ) (lines : List (List ℕ)) → length rest ≡ 0 → map_lines text ≡ lines ++ map_lines rest →
    map_lines text ≡ lines
unfolding map_lines
all_parts text [] lines e parts = parts ∙ append-nil lines
all_parts text (b ∷ rest) lines e parts = absurd (omega (arith, e))

pub read_whole_map : (text rest : List ℕ) (number : ℕ) (r : Reading) (map : RescueMap) → length rest ≡ 0 →
    HasReadUpTo text rest number r → r.has_state ≡ true → map ≡ r.map →
    (blocks : List MapBlock) × IsMap text blocks × KeepsBlocks map blocks
read_whole_map text rest number r map e up has same = (
  up.read.blocks,
  rw (all_parts text rest up.lines e up.parts)
      (map_said r.has_state (statements up.lines) up.read.blocks has up.read.said),
  rw same up.read.keeps,
)

pub lacks_state : (text rest : List ℕ) (number : ℕ) (r : Reading) → length rest ≡ 0 → HasReadUpTo text rest number r →
    r.has_state ≡ false → IsFirstBadLine text number
lacks_state text rest number r e up has =
    let all : map_lines text ≡ up.lines = all_parts text rest up.lines e up.parts in
    let none = first_said r.has_state (statements up.lines) up.read.blocks has up.read.said in
    inr (ap statements all ∙ none.0, up.place ∙ ap (λ l. length l + 1) (sym all))

-- the same, from the outcome at the end of the lines
pub whole_map : (text rest : List ℕ) (number : ℕ) (r : Reading) (result : Result RescueMap MapFault) → length rest ≡ 0 →
    HasReadUpTo text rest number r →
    IfOk result (λ map. (r.has_state ≡ true) × (map ≡ r.map)) →
    IfOk result (λ map. (blocks : List MapBlock) × IsMap text blocks × KeepsBlocks map blocks)
whole_map text rest number r (Ok map) e up ok = read_whole_map text rest number r map e up ok.0 ok.1
whole_map text rest number r (Err fault) e up ok = tt

-- If no line is a state, the line that the fault names at the end of the text is the first bad line.
pub no_map : (text rest : List ℕ) (number : ℕ) (r : Reading) (result : Result RescueMap MapFault) → length rest ≡ 0 →
    HasReadUpTo text rest number r →
    IfErr result (λ fault. IfBadLine fault (λ k. (k ≡ number) × (r.has_state ≡ false))) →
    IfErr result (λ fault. IfBadLine fault (IsFirstBadLine text))
no_map text rest number r (Ok map) e up bad = tt
no_map text rest number r (Err OutOfMemory) e up bad = tt
no_map text rest number r (Err (Line k)) e up bad =
    subst (IsFirstBadLine text) (sym bad.0) (lacks_state text rest number r e up bad.1)
