use Rattle.pm_threads.proofs.meeting.+meet_all.Given as goal

abbrev pub decreases-meet_all : goal.decreases-meet_all
decreases-meet_all g l = l.disks.len
