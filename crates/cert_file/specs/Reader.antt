-- What a reader of a text knows, wherever the text is cut into pieces.
use Rattle.std.specs.Prelude.{ℕ, List}
use Rattle.line_reader.specs.Reader as pieces
use Rattle.line_reader.specs.Seen as lines
use Rattle.cert_theory.specs.declared.data.CertificateError.{CertificateError}
use Rattle.cert_file.specs.Stages.{IsStage}
use Rattle.cert_file.specs.StageAnswers.{AnswersText, Refuses}
use Rattle.cert_file.specs.declared.stage.Stage.{Stage}
use Rattle.line_reader.specs.declared.reader.PieceReader.{PieceReader}

-- the stage, the number of the next line, and the bytes of the unfinished line
abbrev pub Reader : Type 0
Reader = pieces.Reader Stage

-- a reader of certificates
abbrev pub CertificatePieces : Type 0
CertificatePieces = PieceReader Stage

abbrev pub seen : CertificatePieces → Reader
seen r = lines.seen r

-- the invariant of a reader
abbrev pub IsReader : Reader → Type 0
IsReader r = pieces.IsReader IsStage r

-- A reader determines the result of every text that begins with these bytes, and it keeps the header and the
-- chain.
abbrev pub StandsFor : Reader → List ℕ → Type 0
StandsFor r text = pieces.StandsFor AnswersText r text

-- every text that begins with these bytes has this fault
abbrev pub IsRefused : CertificateError → List ℕ → Type 0
IsRefused e text = pieces.IsRefused Refuses e text
