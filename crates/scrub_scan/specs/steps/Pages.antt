-- Two pages of an extent in buffers, and what is scanned through them.
use Rattle.std.specs.Prelude.{◌≡◌, ◌<◌, ◌≤◌, ◌+◌, ◌-◌, ◌*◌, ◌/◌, ◌⊎◌, ℕ, List, Option, Some, None, IfSome, MatchOption, ◌^◌, if◌then◌else◌, nat_lt, length}
use Rattle.std.specs.Option.{option_map_or}
use Rattle.std.specs.List.{Contains}
use Rattle.scrub_disk.specs.Image.{Image, extent_bytes, AreBytesAt}
use Rattle.sha2.specs.Sha256.{sha256}
use Rattle.scrub_scan.specs.declared.pages.HeldPage.{HeldPage}
use Rattle.scrub_scan.specs.declared.pages.TwoPages.{TwoPages}
use Rattle.scrub_scan.specs.declared.pages.Target.{Target}
use Rattle.scrub_scan.specs.declared.scanner.Scanner.{Scanner}
use Rattle.scrub_scan.specs.declared.found_frame.FoundFrame.{FoundFrame}
use Rattle.scrub_frame.specs.declared.form.Form.{Form}
use Rattle.scrub_frame.specs.declared.frame.Head.{Head}
use Rattle.scrub_frame.specs.Frame.{frame_overhead}
use Rattle.scrub_frame.specs.declared.matcher.Matcher.{Matcher}
use Rattle.scrub_frame.specs.declared.matcher.Fed.{Fed}
use Rattle.scrub_frame.specs.declared.matcher.Fed.TheVariants.{More, Whole, No}
use Rattle.scrub_frame.specs.Matching.{StandsFor, NoFrameYet}
use Rattle.scrub_scan.specs.Extent.{Extent, extent_of, FrameAt, NoFrameAt}

-- the buffer has the bytes of page q of extent e, or knows that it can't be read
pub record HasPage (image : Image) (e q : ℕ) (h : HeldPage) : Type 0 where
  pub in_pages : q < image.geometry.pages
  pub content : image.page e q ≡ (if h.readable then Some h.bytes.items else None)

-- the buffer is as long as a page, and has the page whose number it gives
pub record Holds (image : Image) (e : ℕ) (h : HeldPage) : Type 0 where
  pub size : length h.bytes.items ≡ image.geometry.page
  pub page : IfSome h.number (λ q. HasPage image e q h)

-- both buffers have the pages whose numbers they give
pub record HoldBoth (image : Image) (e : ℕ) (p : TwoPages) : Type 0 where
  pub size : p.page ≡ image.geometry.page
  pub near : Holds image e p.near
  pub far : Holds image e p.far

-- one of the two buffers gives page q as its page
abbrev pub HasLoaded : TwoPages → ℕ → Type 0
HasLoaded p q = (p.near.number ≡ Some q) ⊎ (p.far.number ≡ Some q)

-- the source was asked at most n times, and once more if the near buffer has page q
pub record AskedBy (p : TwoPages) (q n : ℕ) : Type 0 where
  pub most : p.asked ≤ n + 1
  pub unread : (p.near.number ≡ Some q → ⊥) → p.asked ≤ n

-- the source was asked, by a call for each, for the pages in the buffers and for every page below n
pub record HasRead (p : TwoPages) (n : ℕ) : Type 0 where
  pub calls : List ℕ
  pub each : p.asked < 2 ^ 32 → length calls ≤ p.asked
  pub near : IfSome p.near.number (Contains calls)
  pub far : IfSome p.far.number (Contains calls)
  pub below : (q : ℕ) → q < n → Contains calls q

-- pages before and after some reads into the far one, at most `most` and none if all is `here`: the near page is the same,
-- and what was asked for is still counted
pub record ReadsFar (most : ℕ) (here : Type 0) (old new : TwoPages) : Type 0 where
  pub near : new.near ≡ old.near
  pub read : (n : ℕ) → HasRead old n → HasRead new n
  pub asked : new.asked ≤ old.asked + most
  pub known : here → new.asked ≡ old.asked

-- pages before and after the two may have changed places: the near page is q still if it was, and nothing was asked for
pub record KeepsReads (q : ℕ) (old new : TwoPages) : Type 0 where
  pub near : old.near.number ≡ Some q → new.near.number ≡ Some q
  pub asked : new.asked ≡ old.asked
  pub read : (n : ℕ) → HasRead old n → HasRead new n

-- an extent of the image, and a pointer that isn't past its end
pub record IsTarget (image : Image) (t : Target) : Type 0 where
  pub in_extents : t.extent < image.geometry.extents
  pub page : t.page ≡ image.geometry.page
  pub in_extent : t.pointer ≤ extent_bytes image.geometry

-- the page of the last byte of a frame of form f at p whose payload has n bytes
abbrev pub last_page : Target → ℕ → Form → ℕ → ℕ
last_page t p f n = (p + n + frame_overhead f - 1) / t.page

-- how many page reads a frame costs besides its first page g, if its last page is b: none if these are one page
abbrev pub frame_cost : ℕ → ℕ → ℕ
frame_cost g b = if nat_lt g b then 4 + (b - g) else 0

-- the extent of a target under its pointer
abbrev pub target_of : Image → Target → Extent
target_of image t = extent_of image t.extent t.pointer

-- the scanner's buffers have pages of the extent, and the page that it remembers as unreadable is so
pub record Scans (image : Image) (t : Target) (s : Scanner) : Type 0 where
  pub pages : HoldBoth image t.extent s.pages
  pub gap : IfSome s.gap (λ q. image.page t.extent q ≡ None)

-- a frame with this form, UUID, length and digest is at p
pub record IsFound (x : Extent) (p : ℕ) (f : FoundFrame) : Type 0 where
  pub payload : List ℕ
  pub frame : FrameAt x p f.form f.uuid payload
  pub size : f.length ≡ length payload
  pub digest : f.digest ≡ sha256 payload

-- the place after the frame that was found at p, or p itself if there is none
abbrev pub place_behind : ℕ → Option FoundFrame → ℕ
place_behind p found = option_map_or (λ f. p + f.length + frame_overhead f.form) found p

-- the frame that a head claims, with this digest
abbrev pub found_by : Head → List ℕ → FoundFrame
found_by h digest = record { form = h.form; uuid = h.uuid; length = h.length; digest = digest }

-- the n bytes from p on are on the near page
abbrev pub IsNear : Target → TwoPages → ℕ → ℕ → Type 0
IsNear t pages p n = (pages.near.number ≡ Some (p / t.page)) × (p + n ≤ (p / t.page + 1) * t.page)

-- pages before and after a frame at p was read into the far one: one call for each page after the near one, and every page
-- before the place after the frame was asked for
pub record ReadsFrame (image : Image) (t : Target) (p : ℕ) (found : Option FoundFrame) (old new : TwoPages) : Type 0 where
  pub near : new.near ≡ old.near
  pub asked : old.near.number ≡ Some (p / t.page) → MatchOption found (new.asked < old.asked + image.geometry.pages)
      (λ f. new.asked ≤ old.asked + (last_page t p f.form f.length - p / t.page))
  pub read : HasRead old (p / t.page) → HasRead new (place_behind p found / t.page)

-- pages before and after a frame was looked for at p: its page is the near one, with the calls that this costs, and every
-- page before the place after the frame was asked for
pub record ReadsFrameAt (image : Image) (t : Target) (p : ℕ) (found : Option FoundFrame) (old new : TwoPages) : Type 0 where
  pub near : new.near.number ≡ Some (p / t.page)
  pub asked : (n : ℕ) → AskedBy old (p / t.page) n → MatchOption found (new.asked ≤ n + 4 + image.geometry.pages)
      (λ f. new.asked ≤ n + 1 + frame_cost (p / t.page) (last_page t p f.form f.length))
  pub read : HasRead old (p / t.page) → HasRead new (place_behind p found / t.page)

-- pages before and after the item from p to `stop` was found: the calls that this costs, up to the page where the next item
-- begins, and every page before that was asked for
pub record ReadsItem (image : Image) (t : Target) (p stop : ℕ) (old new : TwoPages) : Type 0 where
  pub asked : (n : ℕ) → AskedBy old (p / t.page) n → new.asked ≤ n + 4 + image.geometry.pages
  pub next : (n : ℕ) → AskedBy old (p / t.page) n → stop < t.pointer →
      AskedBy new (stop / t.page) (n + (stop / t.page - p / t.page) * (image.geometry.pages + 5))
  pub read : HasRead old (p / t.page) → HasRead new (stop / t.page)

-- the matcher was fed the bytes of the extent from start up to place, and no frame ends among them
pub record Passes (x : Extent) (start place : ℕ) (m : Matcher) : Type 0 where
  pub bytes : List ℕ
  pub stands : AreBytesAt x.byte start bytes
  pub here : start + length bytes ≡ place
  pub fed : StandsFor m (x.pointer - start) bytes
  pub none : NoFrameYet bytes

-- what a matcher's answer says once the bytes up to `stop` were fed: the frame may go on, has ended and is whole, or
-- there is none
abbrev pub IsPassed : Extent → ℕ → ℕ → Matcher → Fed → Type 0
IsPassed x start stop m More = Passes x start stop m × (stop < x.pointer)
IsPassed x start stop m (Whole used f u n d) = IsFound x start (record { form = f; uuid = u; length = n; digest = d }) × (start + n + frame_overhead f ≤ stop)
IsPassed x start stop m No = NoFrameAt x start
