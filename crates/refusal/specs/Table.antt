-- The table of refusals: what each case answers, and its line of words. Assumes nothing.
use Rattle.std.specs.Prelude.{List, ℕ, codes}
use Rattle.refusal.specs.declared.Answer.{Answer}
use Rattle.refusal.specs.declared.Refusal.{Refusal}
use Rattle.refusal.specs.declared.Refusal.TheVariants.{SegmentNumber, QuarterHour, Reading, SiteNumber, Figure, SegmentField, DayLength, Factor, ListLength, ProfileLimit, ProfileTotal, ProfiledQuarterHour, AlreadyOnRoll, NotOnRoll, NoPlace, NothingStands, EmptyRoll, NoReading, NoFactor, LoadTooLarge, NoFigure, NoWeight, NoTotal}

-- number, subject (the segment or site at fault) and height (layers that a book's fault came up through)
abbrev pub says : ℕ → ℕ → ℕ → Answer
says n s h = record { number = n; subject = s; height = h }

abbrev pub answer_of : Refusal → Answer
answer_of SegmentNumber = says 1 0 0
answer_of QuarterHour = says 2 0 0
answer_of Reading = says 3 0 0
answer_of SiteNumber = says 4 0 0
answer_of Figure = says 5 0 0
answer_of SegmentField = says 6 0 0
answer_of DayLength = says 7 0 0
answer_of Factor = says 8 0 0
answer_of ListLength = says 9 0 0
answer_of ProfileLimit = says 10 0 0
answer_of ProfileTotal = says 11 0 0
answer_of ProfiledQuarterHour = says 12 0 0
answer_of AlreadyOnRoll = says 13 0 0
answer_of (NotOnRoll subject) = says 14 subject 0
answer_of NoPlace = says 15 0 0
answer_of NothingStands = says 16 0 0
answer_of EmptyRoll = says 17 0 0
answer_of (NoReading segment height) = says 18 segment height
answer_of (NoFactor segment height) = says 19 segment height
answer_of (LoadTooLarge segment height) = says 20 segment height
answer_of (NoFigure site) = says 21 site 0
answer_of NoWeight = says 22 0 0
answer_of NoTotal = says 23 0 0

abbrev pub words_of : Refusal → List ℕ
words_of SegmentNumber = codes "segment number above 63"
words_of QuarterHour = codes "quarter hour past the end of the day"
words_of Reading = codes "reading above 1,000,000 Wh"
words_of SiteNumber = codes "site number above 15"
words_of Figure = codes "generation figure outside -10,000,000 to 10,000,000 Wh"
words_of SegmentField = codes "QSE, settlement point, loss code or mark out of range"
words_of DayLength = codes "a day has 92, 96 or 100 quarter hours"
words_of Factor = codes "loss factor above 500,000, or its code not A to E"
words_of ListLength = codes "list of the wrong length"
words_of ProfileLimit = codes "profiled reading, profile total or profile weight out of range"
words_of ProfileTotal = codes "the day's profile weights run past the profile total"
words_of ProfiledQuarterHour = codes "a profiled quarter hour above 1,000,000 Wh"
words_of AlreadyOnRoll = codes "number already on the roll"
words_of (NotOnRoll subject) = codes "segment or site not on the roll"
words_of NoPlace = codes "no place left in the load book"
words_of NothingStands = codes "nothing stands there to be taken back"
words_of EmptyRoll = codes "no segment on the roll"
words_of (NoReading segment height) = codes "a segment has no reading"
words_of (NoFactor segment height) = codes "a segment has no loss factor"
words_of (LoadTooLarge segment height) = codes "a segment's load above 4,000,000 Wh"
words_of (NoFigure site) = codes "a site has no generation figure"
words_of NoWeight = codes "there is UFE, and no weighted load to carry it"
words_of NoTotal = codes "the total of all loads is not positive"
