-- Document 01, "Quantities and sizes": points in time and lengths of time. Assumes nothing.
use Rattle.std.specs.Prelude.{ℕ, ◌+◌, ◌*◌, min}
use Rattle.time.specs.declared.Instant.{Instant}
use Rattle.time.specs.declared.Duration.{Duration}

-- "Both are whole milliseconds in 64 bits": the last of them
abbrev pub last_point : ℕ
last_point = 0xffff_ffff_ffff_ffff

-- "adding a length to a point is the one mixed operation"; past 64 bits it gives the last point
abbrev pub add_of : Instant → Duration → Instant
add_of t d = record { 0 = min (t.0 + d.0) last_point }

-- "a lifetime of s seconds .. is 1,000 s"; "all ones too" until request 2026-01, which a prefix's lifetimes follow
abbrev pub seconds_of : ℕ → Duration
seconds_of s = record { 0 = s * 1000 }
