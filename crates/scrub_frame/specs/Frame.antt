-- The bytes of a frame, which holds a chunk's payload on disk, in the plain or in the sealed form. Numbers are
-- big-endian, and a digest is SHA-256 (FIPS 180-4).
use Rattle.std.specs.Prelude.{◌≡◌, ◌<◌, ◌+◌, ◌-◌, ◌^◌, ℕ, List, [], ◌∷◌, ◌++◌, length}
use Rattle.byteorder.specs.Endian.{big_bytes}
use Rattle.sha2.specs.Sha256.{sha256}
use Rattle.scrub_frame.specs.declared.form.Form.{Form}
use Rattle.scrub_frame.specs.declared.form.Form.TheVariants.{Plain, Sealed}

-- the two bytes that a frame begins with: C5 5E, or C5 5F in a sealed one
abbrev pub magic : Form → List ℕ
magic Plain = 0xC5 ∷ 0x5E ∷ []
magic Sealed = 0xC5 ∷ 0x5F ∷ []

-- how many bytes a head has, in either form: 22
abbrev pub head_size : ℕ
head_size = 22

-- the head of a frame: the magic, a UUID, and the payload's length in four bytes
abbrev pub head : Form → List ℕ → ℕ → List ℕ
head form uuid size = magic form ++ (uuid ++ big_bytes 4 size)

-- what is between the head and the payload: nothing in a plain frame, the payload's digest in a sealed one
abbrev pub seal : Form → List ℕ → List ℕ
seal Plain payload = []
seal Sealed payload = sha256 payload

-- how many bytes a digest has: 32
abbrev pub digest_size : ℕ
digest_size = 32

-- how many bytes a seal has: none in a plain frame, 32 in a sealed one
abbrev pub seal_size : Form → ℕ
seal_size Plain = 0
seal_size Sealed = digest_size

-- what follows the second UUID: nothing in a plain frame, the closing mark 3A A3 in a sealed one
abbrev pub mark : Form → List ℕ
mark Plain = []
mark Sealed = 0x3A ∷ 0xA3 ∷ []

-- the byte of a frame at which its payload begins: 22 in a plain frame, 54 in a sealed one
abbrev pub payload_start : Form → ℕ
payload_start form = head_size + seal_size form

-- how many bytes the second UUID and the mark have: 16 in a plain frame, 18 in a sealed one
abbrev pub close_size : Form → ℕ
close_size form = 16 + length (mark form)

-- how many bytes a frame has besides its payload: 38 in a plain frame, 72 in a sealed one
abbrev pub frame_overhead : Form → ℕ
frame_overhead Plain = 38
frame_overhead Sealed = 72

-- the frame of a UUID and a payload: the magic, the UUID, the payload's length in four bytes, the payload, and the UUID again; in
-- a sealed one the payload's digest is before the payload, and the closing mark 3A A3 comes last
abbrev pub frame_of : Form → List ℕ → List ℕ → List ℕ
frame_of Plain uuid payload = magic Plain ++ uuid ++ big_bytes 4 (length payload) ++ payload ++ uuid
frame_of Sealed uuid payload =
    magic Sealed ++ uuid ++ big_bytes 4 (length payload) ++ sha256 payload ++ payload ++ uuid ++ 0x3A ∷ 0xA3 ∷ []

-- these have a frame: a UUID of sixteen bytes, and a payload whose length fits four bytes
pub record HasFrame (uuid payload : List ℕ) : Type 0 where
  pub sixteen : length uuid ≡ 16
  pub short : length payload < 2 ^ 32

-- the frame of this form, this UUID and this payload is a prefix of the bytes
pub record BeginsWithFrame (bytes : List ℕ) (form : Form) (uuid payload : List ℕ) : Type 0 where
  pub has_frame : HasFrame uuid payload
  pub rest : List ℕ
  pub spelled : bytes ≡ frame_of form uuid payload ++ rest

-- no frame of either form is a prefix of the bytes
abbrev pub BeginsWithNoFrame : List ℕ → Type 0
BeginsWithNoFrame bytes = (form : Form) (uuid payload : List ℕ) → ¬ BeginsWithFrame bytes form uuid payload

-- how many bytes the longest frame that is written has: 2^26, as many as the largest extent
abbrev pub longest_frame : ℕ
longest_frame = 67108864

-- the longest payload that is written in a form: its frame is the longest one
abbrev pub longest_payload : Form → ℕ
longest_payload form = longest_frame - frame_overhead form
